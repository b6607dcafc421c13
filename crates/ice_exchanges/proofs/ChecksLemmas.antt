-- A check is judged as it was written.
use Rattle.std.proofs.Common.{◌≡◌, ℕ, ◌+◌, ◌^◌, ◌<◌, ◌≤◌, Bool, true, false, List, [], ◌∷◌, ◌++◌, length, Option, None, Some, inl, refl, sym, ap, subst, ◌∙◌, lit<, lit≤, arith}
use Rattle.std.specs.Prelude.{is_some, codes, IfSome, ◌==◌, if◌then◌else◌, option_and_then}
use Rattle.std.specs.List.{AllByRecursion, list_any}
use Rattle.std.specs.Option.{option_map_or, option_zip}
use Rattle.std.proofs.lemmas.List.{length-append}
use Rattle.stun_grammar.specs.declared.attribute_type.AttributeType.{AttributeType}
use Rattle.stun_grammar.specs.declared.integrity_algorithm.IntegrityAlgorithm.TheVariants.{Sha1}
use Rattle.stun_grammar.specs.Attributes.{Attribute, canonical, encodings, types}
use Rattle.stun_grammar.specs.AttributeTypes.{FINGERPRINT, MESSAGE_INTEGRITY, SOFTWARE, USERNAME, is_ending}
use Rattle.stun_grammar.specs.Headers.{id_field}
use Rattle.stun_grammar.specs.Names.{BINDING}
use Rattle.stun_grammar.specs.Numbers.{be32, be64, number}
use Rattle.stun_grammar.specs.ScannedOrder.{has}
use Rattle.stun_grammar.specs.Verdicts.{is_checked_type, verdict}
use Rattle.stun_base.specs.MessageTypes.{class_of, is_response, method_of}
use Rattle.stun_keys.specs.Keys.{key_bytes, serves}
use Rattle.stun_authentication.specs.Answers.{accept}
use Rattle.stun_authentication.specs.Identities.{named, shows, value_of}
use Rattle.stun_authentication.specs.Lookups.{UserKey, key_held}
use Rattle.stun_authentication.specs.ShortTerm.{short_term}
use Rattle.stun_authentication.specs.Writing.{finished, signed, signed_reply}
use Rattle.stun_exchanges.specs.Premises.{HasRoom, IsOpen}
use Rattle.stun_exchanges.proofs.EndedLemmas.{print_unchecked, reply_validates}
use Rattle.stun_exchanges.proofs.LoginsWritableLemmas.{IsAdded}
use Rattle.stun_exchanges.proofs.ProofLemmas.{is_served, is_wanted, key_counts, proof_is, signed_for}
use Rattle.stun_exchanges.proofs.ShortTermLemmas.{once_writable, rows}
use Rattle.stun_exchanges.proofs.TakenLemmas.{reply_found}
use Rattle.stun_endpoints.specs.declared.endpoints.Endpoint.{Endpoint}
use Rattle.ice_attrs.specs.Ice.{ICE_CONTROLLED, ICE_CONTROLLING, PRIORITY, USE_CANDIDATE}
use Rattle.ice_machine.specs.declared.messages.Request.{Request}
use Rattle.ice_machine.specs.Exchanges.{delivered}
use Rattle.ice_machine.specs.declared.roles.Role.{Role}
use Rattle.ice_machine.specs.declared.roles.Role.TheVariants.{Controlled, Controlling}
use Rattle.ice_checks.specs.declared.judged.Judged.TheVariants.{Arrives, Strays, Refused, Checks}
use Rattle.ice_checks.specs.declared.judged.Refusal.TheVariants.{BadRequest, UnknownTypes}
use Rattle.ice_checks.specs.Checks.{check_text, check_type, id_of, nomination_attributes, role_attribute, software_attributes}
use Rattle.ice_checks.specs.Judging.{by_class, check_by, content, decided, judge, message_judged, number_of, policy, priority_in, role_by, role_in, role_with}
use Rattle.ice_checks.specs.Sessions.{key_of, username_of}
use Rattle.ice_checks.specs.Types.{understood}
use Rattle.ice_checks.specs.Views.{Login, Logins}
use Rattle.ice_checks.proofs.SessionsLemmas.{username_is_named}
use Rattle.ice_exchanges.specs.Peers.{AreShort, IsInFields, Knows}
use Rattle.ice_exchanges.proofs.SignedLemmas.{IsRead, first, first_value, has_room, is_other, none_unknown, one_size, open_of, read_signed, value_is}

-- ---- The attributes

abbrev written : (software : Option (List ℕ)) → (username : List ℕ) → (priority : ℕ) → (nominates : Bool) → Role → (tiebreaker : ℕ) → List Attribute
written software username priority nominates role tiebreaker =
    software_attributes software ++ (canonical USERNAME username ∷ canonical PRIORITY (be32 priority) ∷ (nomination_attributes nominates ++ role_attribute role tiebreaker ∷ []))

-- what they have
record HasFacts (username : List ℕ) (priority : ℕ) (nominates : Bool) (role : Role) (tiebreaker : ℕ) (xs : List Attribute) : Type 0 where
  user_is : first_value USERNAME xs ≡ Some username
  priority_is : first_value PRIORITY xs ≡ Some (be32 priority)
  candidate_is : is_some (first_value USE_CANDIDATE xs) ≡ nominates
  role_is : role_by (first_value ICE_CONTROLLING xs) (first_value ICE_CONTROLLED xs) ≡ role_with role (be64 tiebreaker)
  known : list_any (is_other understood) (types xs) ≡ false
  ordinary : list_any is_ending (types xs) ≡ false

facts : (software : Option (List ℕ)) (username : List ℕ) (priority : ℕ) (nominates : Bool) (role : Role) (tiebreaker : ℕ)
    → HasFacts username priority nominates role tiebreaker (written software username priority nominates role tiebreaker)
facts None username priority true Controlling tiebreaker = record { user_is = refl; priority_is = refl; candidate_is = refl; role_is = refl; known = refl; ordinary = refl }
facts None username priority true Controlled tiebreaker = record { user_is = refl; priority_is = refl; candidate_is = refl; role_is = refl; known = refl; ordinary = refl }
facts None username priority false Controlling tiebreaker = record { user_is = refl; priority_is = refl; candidate_is = refl; role_is = refl; known = refl; ordinary = refl }
facts None username priority false Controlled tiebreaker = record { user_is = refl; priority_is = refl; candidate_is = refl; role_is = refl; known = refl; ordinary = refl }
facts (Some name) username priority true Controlling tiebreaker = record { user_is = refl; priority_is = refl; candidate_is = refl; role_is = refl; known = refl; ordinary = refl }
facts (Some name) username priority true Controlled tiebreaker = record { user_is = refl; priority_is = refl; candidate_is = refl; role_is = refl; known = refl; ordinary = refl }
facts (Some name) username priority false Controlling tiebreaker = record { user_is = refl; priority_is = refl; candidate_is = refl; role_is = refl; known = refl; ordinary = refl }
facts (Some name) username priority false Controlled tiebreaker = record { user_is = refl; priority_is = refl; candidate_is = refl; role_is = refl; known = refl; ordinary = refl }

-- they may be added
role_added : (role : Role) (tiebreaker : ℕ) → IsAdded (role_attribute role tiebreaker)
role_added Controlling tiebreaker = record { written = refl; type_fits = lit< tt; value_fits = lit< tt; plain = refl }
role_added Controlled tiebreaker = record { written = refl; type_fits = lit< tt; value_fits = lit< tt; plain = refl }

nomination_added : (nominates : Bool) (xs : List Attribute) → AllByRecursion IsAdded xs → AllByRecursion IsAdded (nomination_attributes nominates ++ xs)
nomination_added true xs all = (record { written = refl; type_fits = lit< tt; value_fits = lit< tt; plain = refl }, all)
nomination_added false xs all = all

named_added : (username : List ℕ) (priority : ℕ) (nominates : Bool) (role : Role) (tiebreaker : ℕ) → length username ≤ 513
    → AllByRecursion IsAdded (canonical USERNAME username ∷ canonical PRIORITY (be32 priority) ∷ (nomination_attributes nominates ++ role_attribute role tiebreaker ∷ []))
named_added username priority nominates role tiebreaker short = (
  record { written = refl; type_fits = lit< tt; value_fits = omega (arith, short); plain = refl },
  (
    record { written = refl; type_fits = lit< tt; value_fits = lit< tt; plain = refl },
    nomination_added nominates (role_attribute role tiebreaker ∷ []) (role_added role tiebreaker, tt),
  ),
)

added : (software : Option (List ℕ)) (username : List ℕ) (priority : ℕ) (nominates : Bool) (role : Role) (tiebreaker : ℕ) → length username ≤ 513 → IfSome software (λ name. length name ≤ 763)
    → AllByRecursion IsAdded (written software username priority nominates role tiebreaker)
added None username priority nominates role tiebreaker short few = named_added username priority nominates role tiebreaker short
added (Some name) username priority nominates role tiebreaker short few =
    (record { written = refl; type_fits = lit< tt; value_fits = omega (arith, few); plain = refl }, named_added username priority nominates role tiebreaker short)

-- and take few bytes
role_size : (role : Role) (tiebreaker : ℕ) → length (encodings (role_attribute role tiebreaker ∷ [])) ≡ 12
role_size Controlling tiebreaker = one_size ICE_CONTROLLING (be64 tiebreaker) [] (lit< tt) (lit< tt)
role_size Controlled tiebreaker = one_size ICE_CONTROLLED (be64 tiebreaker) [] (lit< tt) (lit< tt)

nomination_size : (nominates : Bool) (xs : List Attribute) → length (encodings (nomination_attributes nominates ++ xs)) ≤ 4 + length (encodings xs)
nomination_size true xs = omega (arith, one_size USE_CANDIDATE [] xs (lit< tt) (lit< tt))
nomination_size false xs = omega arith

named_size : (username : List ℕ) (priority : ℕ) (nominates : Bool) (role : Role) (tiebreaker : ℕ) → length username ≤ 513
    → length (encodings (canonical USERNAME username ∷ canonical PRIORITY (be32 priority) ∷ (nomination_attributes nominates ++ role_attribute role tiebreaker ∷ []))) ≤ 600
named_size username priority nominates role tiebreaker short =
    let end = role_attribute role tiebreaker ∷ [] in
    let more = nomination_attributes nominates ++ end in
    let rest = canonical PRIORITY (be32 priority) ∷ more in
    omega (
      arith,
      short,
      one_size USERNAME username rest (lit< tt) (omega (arith, short)),
      one_size PRIORITY (be32 priority) more (lit< tt) (lit< tt),
      nomination_size nominates end,
      role_size role tiebreaker,
    )

size : (software : Option (List ℕ)) (username : List ℕ) (priority : ℕ) (nominates : Bool) (role : Role) (tiebreaker : ℕ) → length username ≤ 513 → IfSome software (λ name. length name ≤ 763)
    → length (encodings (written software username priority nominates role tiebreaker)) ≤ 1_400
size None username priority nominates role tiebreaker short few = omega (arith, named_size username priority nominates role tiebreaker short)
size (Some name) username priority nominates role tiebreaker short few =
    let rest = canonical USERNAME username ∷ canonical PRIORITY (be32 priority) ∷ (nomination_attributes nominates ++ role_attribute role tiebreaker ∷ []) in
    omega (arith, few, one_size SOFTWARE name rest (lit< tt) (omega (arith, few)), named_size username priority nominates role tiebreaker short)

-- ---- Numbers are read back

number-be32 : (n : ℕ) → n < 2 ^ 32 → number (be32 n) ≡ n
number-be32 n h = omega arith

number-be64 : (n : ℕ) → n < 2 ^ 64 → number (be64 n) ≡ n
number-be64 n h = omega arith

-- ---- It is authentic

request_accepted : (keys : List ℕ → Option UserKey) (kind id : ℕ) (xs : List Attribute) (signer name : List ℕ) (key : UserKey) → IsOpen kind id xs → HasRoom kind id (finished true kind id (signed kind id xs Sha1 signer))
    → is_response (class_of kind) ≡ false → IsRead kind id xs (signed_reply true kind id xs Sha1 signer) → value_of (signed_reply true kind id xs Sha1 signer) USERNAME ≡ Some name → keys name ≡ Some key → key.bytes ≡ signer → serves key.made_for Sha1 ≡ true
    → short_term policy keys (signed_reply true kind id xs Sha1 signer) ≡ accept (named name) key Sha1 Sha1
request_accepted keys kind id xs signer name key plain room request read user known bytes works =
    let d = signed_reply true kind id xs Sha1 signer in
    let hmac = reply_found first true kind id xs Sha1 signer plain room in
    let counts = key_counts key.made_for Sha1 works in
    let so = once_writable true kind id xs Sha1 signer plain.writable plain.ordinary room in
    rows policy keys d name key Sha1 read.printed (ap (λ (t : ℕ). is_response (class_of t)) read.type_is ∙ request) (is_served None Sha1 d (inl refl) hmac) user known (signed_for policy key.made_for key.made_for Sha1 d refl counts hmac)
    (proof_is policy Sha1 d key key.made_for refl hmac (lit≤ tt)
    (ap (λ (k : List ℕ). verdict (is_checked_type key.made_for) (λ _. k) d) bytes
    ∙ reply_validates true kind id xs Sha1 signer (is_checked_type key.made_for) so (is_wanted key.made_for Sha1 counts) (print_unchecked key.made_for)))

-- the key of its USERNAME
own_key : (logins : Logins) (sender : List ℕ) → IfSome logins.peer (λ login. login.fragment ≡ sender) → key_of logins (username_of logins.own.fragment sender) ≡ Some (key_held logins.own.key)
own_key logins sender is =
    ap (λ (b : Bool). if b then Some (key_held logins.own.key) else None)
    (username_is_named logins (username_of logins.own.fragment sender) (record { sender = sender; joined = refl; sender_is = turned logins.peer is }))
  where
    turned : (peer : Option Login) → IfSome peer (λ login. login.fragment ≡ sender) → IfSome peer (λ login. sender ≡ login.fragment)
    turned None e = tt
    turned (Some login) e = sym e

-- ---- It is judged

short_name : (one : Logins) (peer : Login) (software : Option (List ℕ)) → AreShort one peer software → length (username_of peer.fragment one.own.fragment) ≤ 513
short_name one peer software short = omega (arith, short.own_fragment, short.peer_fragment, length-append (peer.fragment ++ codes ":") one.own.fragment, length-append peer.fragment (codes ":"))

content_is : (base : ℕ) (from : Endpoint) (d : List ℕ) (r : Request) → priority_in d ≡ Some r.priority → role_in d ≡ Some (r.role, r.tiebreaker) → id_field d ≡ r.id → shows USE_CANDIDATE d ≡ r.nominates
    → content base from d Sha1 ≡ Checks (delivered r base from) Sha1
content_is base from d r priority role id nominates =
    (λ i. option_map_or (λ (shown : ℕ × (Role × ℕ)). Checks (check_by base from d shown.0 shown.1) Sha1) (option_zip (priority i) (role i)) (Refused (id_field d) BadRequest (Some Sha1)))
    ∙ (λ i. Checks (record { base = base; from = from; id = id i; role = r.role; tiebreaker = r.tiebreaker; nominates = nominates i; priority = r.priority }) Sha1)

pub judged : (one other : Logins) (peer : Login) (software : Option (List ℕ)) (r : Request) (is_awaited : ℕ → Bool) (base : ℕ) (from : Endpoint) → Knows one peer other → AreShort one peer software → IsInFields r
    → judge other is_awaited base from (check_text peer one.own.fragment software r) ≡ Checks (delivered r base from) Sha1
judged one other peer software r is_awaited base from knows short fits =
    let d = check_text peer one.own.fragment software r in
    let username = username_of peer.fragment one.own.fragment in
    let xs = written software username r.priority r.nominates r.role r.tiebreaker in
    let id = id_of r in
    let id_fits : id < 2 ^ 96 = omega arith in
    let f = facts software username r.priority r.nominates r.role r.tiebreaker in
    let name = short_name one peer software short in
    let few = size software username r.priority r.nominates r.role r.tiebreaker name short.name in
    let plain = open_of check_type id xs (lit< tt) id_fits (added software username r.priority r.nominates r.role r.tiebreaker name short.name) f.ordinary few in
    let room = has_room check_type id xs (key_bytes peer.key) few in
    let read = read_signed check_type id xs (key_bytes peer.key) plain room in
    let value : (type : ℕ) → has type (MESSAGE_INTEGRITY ∷ FINGERPRINT ∷ []) ≡ false → value_of d type ≡ first_value type xs = λ type other_type. value_is type d xs read.more read.shows read.ends other_type in
    let receiver : username_of other.own.fragment one.own.fragment ≡ username = ap (λ (f : List ℕ). username_of f one.own.fragment) (sym knows.same.fragment) in
    let key : key_of other username ≡ Some (key_held other.own.key) = subst (λ (u : List ℕ). key_of other u ≡ Some (key_held other.own.key)) receiver (own_key other one.own.fragment knows.named) in
    let accepted = request_accepted (key_of other) check_type id xs (key_bytes peer.key) username (key_held other.own.key) plain room refl read (value USERNAME refl ∙ f.user_is) key (sym knows.same.bytes) knows.same.b_works in
    let none = none_unknown understood d xs read.more read.shows read.ends f.known refl in
    let priority : priority_in d ≡ Some r.priority =
    ap (option_and_then (number_of 4)) (value PRIORITY refl ∙ f.priority_is) ∙ ap (λ (n : ℕ). Some n) (number-be32 r.priority fits.priority) in
    let role : role_in d ≡ Some (r.role, r.tiebreaker) =
    (λ i. role_by (value ICE_CONTROLLING refl i) (value ICE_CONTROLLED refl i)) ∙ f.role_is ∙ ap (λ (n : ℕ). Some (r.role, n)) (number-be64 r.tiebreaker fits.tiebreaker) in
    let id_is : id_field d ≡ r.id = read.id_is ∙ omega (arith, fits.id) in
    let nominates : shows USE_CANDIDATE d ≡ r.nominates = ap (λ (o : Option (List ℕ)). is_some o) (value USE_CANDIDATE refl) ∙ f.candidate_is in
    ap (λ (b : Bool). if b then message_judged other is_awaited base from d else Arrives) read.message
    ∙ ap (λ (t : ℕ). if method_of t == BINDING then by_class other is_awaited base from (class_of t) d else Strays (id_field d)) read.type_is
    ∙ ap (decided base from d) accepted
    ∙ ap (λ (ts : List AttributeType). if length ts == 0 then content base from d Sha1 else Refused (id_field d) UnknownTypes (Some Sha1)) none
    ∙ content_is base from d r priority role id_is nominates
