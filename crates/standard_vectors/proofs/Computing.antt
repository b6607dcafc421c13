-- What the prover opens to compute the definitions on bytes that are written out.
use Rattle.std.proofs.Common.{◌≡◌, ℕ, true, List, [], ◌∷◌, nat_lt, ltb-true}
use Rattle.std.proofs.lemmas.Bool.{and_parts}
use Rattle.std.specs.List.{list_all}
use Rattle.std.specs.Str.{chars, is_utf8}
use Rattle.sha1.specs.Sha1.{first_words as sha1_words, schedule as sha1_schedule, rounds as sha1_rounds, compress as sha1_compress, hash_after as sha1_after, digest_bytes as sha1_bytes, sha1}
use Rattle.sha2.specs.Sha256.{first_words as sha256_words, schedule as sha256_schedule, rounds as sha256_rounds, compress as sha256_compress, hash_after as sha256_after, digest_bytes as sha256_bytes, sha256}
use Rattle.md5.specs.Md5.{block_words as md5_words, rounds as md5_rounds, compress as md5_compress, hash_after as md5_after, digest_bytes as md5_bytes, md5}
use Rattle.stun_grammar.specs.Numbers.{IsBytes}
use Rattle.stun_grammar.specs.Headers.{is_header, begins, header_fault}
use Rattle.stun_grammar.specs.Attributes.{encoding}
use Rattle.stun_grammar.specs.Chains.{first_attribute, chain_within, chain, rest, fault, placed}
use Rattle.stun_grammar.specs.ShownOrder.{endings, without, in_order}
use Rattle.stun_grammar.specs.ScannedOrder.{distinct, in_any_order}
use Rattle.stun_grammar.specs.Prefixes.{longest_within, longest_prefix}
use Rattle.stun_grammar.specs.Checksums.{shifted_by, crc}
use Rattle.stun_grammar.specs.Fingerprints.{message_before, fingerprint_value, fingerprint_fault}
use Rattle.stun_grammar.specs.Showing.{length_fault, frame_fault, shown}
use Rattle.stun_grammar.specs.Parsing.{body_fault, parse_fault}
use Rattle.stun_grammar.specs.Writing.{message_encoding}
use Rattle.stun_grammar.specs.Authentic.{authentic, authentic_fingerprint}
use Rattle.stun_grammar.specs.Steps.{appended_by}
use Rattle.stun_grammar.specs.Adding.{order_refusal, room_refusal}
use Rattle.stun_grammar.specs.Sending.{body_from}
use Rattle.stun_grammar.specs.Origin.{signed_from}
use Rattle.stun_values.specs.Algorithms.{fault_within}
use Rattle.stun_values.specs.Typed.{rule_of}
use Rattle.stun_grammar.specs.Hmac.{hmac_over, hmac}
use Rattle.stun_grammar.specs.Verdicts.{hmac_fault, verdict_on, verdict}

-- parsing, showing, writing
unfoldable pub reading : Unit {0}
unfolding is_header begins header_fault encoding first_attribute chain_within chain rest fault placed endings without in_order distinct in_any_order longest_within longest_prefix shifted_by crc message_before fingerprint_value fingerprint_fault length_fault frame_fault shown body_fault parse_fault message_encoding
reading = tt

-- the digests, and HMAC over them
unfoldable pub digests : Unit {0}
unfolding sha1_words sha1_schedule sha1_rounds sha1_compress sha1_after sha1_bytes sha1 sha256_words sha256_schedule sha256_rounds sha256_compress sha256_after sha256_bytes sha256 md5_words md5_rounds md5_compress md5_after md5_bytes md5 hmac_over hmac
digests = tt

-- the verdict, what it authenticates, writing by steps, and values
unfoldable pub validating : Unit {0}
unfolding reading digests hmac_fault verdict_on verdict authentic authentic_fingerprint appended_by order_refusal room_refusal body_from signed_from fault_within rule_of chars is_utf8 lib.Utf8.encode
validating = tt

-- numbers below 256 are bytes
pub are_bytes : (b : List ℕ) → list_all (λ byte. nat_lt byte 256) b ≡ true → IsBytes b
are_bytes [] e = tt
are_bytes (x ∷ b) e = let parts = and_parts (nat_lt x 256) (list_all (λ byte. nat_lt byte 256) b) e in (ltb-true x 256 parts.0, are_bytes b parts.1)
