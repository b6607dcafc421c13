-- Steps that a writer takes which resumes a message in a slice: none lacks room.
use Rattle.std.proofs.Common.{◌≡◌, ℕ, ◌+◌, ◌≤◌, Bool, true, false, List, [], ◌∷◌, ◌++◌, length, take, drop, Option, None, Some, Result, Ok, Err, inl, inr, refl, sym, ap, ◌∙◌, append_assoc, subst, arith}
use Rattle.std.specs.Prelude.{MatchResult, nat_lt, if◌then◌else◌}
use Rattle.std.proofs.lemmas.Bool.{cond-false, le-ltb}
use Rattle.std.specs.Option.{option_or}
use Rattle.std.specs.Borrow.{GName}
use Rattle.std.proofs.lemmas.List.{length-append, length-take, length-drop, drop-drop, drop-append-le, take-append-drop}
use Rattle.std.proofs.Math.Seq.{take-append-add, take-append_seam}
use Rattle.stun_grammar.specs.declared.error.StunWriteError.{StunWriteError}
use Rattle.stun_grammar.specs.declared.error.StunWriteError.TheVariants.{TooLarge, IntegrityFailed}
use Rattle.stun_grammar.specs.declared.integrity_algorithm.IntegrityAlgorithm.{IntegrityAlgorithm}
use Rattle.stun_grammar.specs.Adding.{grown_length, add_refusal}
use Rattle.stun_grammar.specs.Attributes.{Attribute}
use Rattle.stun_grammar.specs.AttributeTypes.{REALM, NONCE}
use Rattle.stun_grammar.specs.Steps.{Step, add, sign, value_length}
use Rattle.stun_grammar.proofs.AddingRefusedLemmas.{no_refusal}
use Rattle.stun_grammar.proofs.HeadersLemmas.{header_length}
use Rattle.stun_keys.specs.Keys.{serves}
use Rattle.stun_types.specs.Resuming.{resume_fault, message_types, after_steps, IsResumed}
use Rattle.stun_types.specs.Writers.{Writer}
use Rattle.stun_values.specs.TextValues.{username_max}
use Rattle.stun_values.specs.declared.algorithm.PasswordAlgorithmValue.{PasswordAlgorithmValue}
use Rattle.stun_authentication.specs.Challenges.{Retry, signing_algorithm}
use Rattle.stun_authentication.specs.Requests.{asked_identity, identity_attribute, algorithm_attributes, answering_attributes, login_steps, name_refusal, AnswersWith}
use Rattle.stun_authentication.specs.Writing.{adds, print_steps, signing_refusal, Finishes, FinishesBy, step_type, steps_length, steps_refusal, refusal_by, Lacks, KeepsAttributes, TakesSteps}
use Rattle.stun_types_c.specs.declared.call_result.CResult.{CResult}
use Rattle.stun_types_c.specs.CResults.{plain, write_result}
use Rattle.stun_types_c.specs.Codes.{OK}
use Rattle.stun_types_c.specs.Writing.{Written, TakesIn}

-- ---- Room

both_none : (x y : Option StunWriteError) → option_or x y ≡ None → (x ≡ None) × (y ≡ None)
both_none None y e = (refl, e)
both_none (Some x) y e = absurd cc

-- steps that none refuses fit
steps_fit : (steps : List Step) (types : List ℕ) (len most : ℕ) → len ≤ most → steps_refusal steps types len (Some most) ≡ None → len + steps_length steps ≤ most
steps_fit [] types len most within none = omega (arith, within)
steps_fit (step ∷ steps) types len most within none =
    let parts = both_none (add_refusal step types len (Some most)) (steps_refusal steps (types ++ step_type step ∷ []) (grown_length len (value_length step)) (Some most)) none in
    let room = no_refusal step types len (Some most) parts.0 in
    let rest = steps_fit steps (types ++ step_type step ∷ []) (grown_length len (value_length step)) most room.room parts.1 in
    omega (arith, rest)

module _ (slice : List ℕ) (count : ℕ) (name : GName) (w : Writer) (resumed : IsResumed w slice count name) (steps : List Step) where
  abbrev message : List ℕ
  message = take count slice

  abbrev refused : Option StunWriteError
  refused = steps_refusal steps (message_types message) (length message) (Some (length slice))

  none_lacks : length steps ≤ 16 → Lacks w steps → ⊥
  none_lacks few short =
      let size : length message ≡ count = ap length (sym resumed.bytes) ∙ resumed.size in
      let within : count ≤ length slice = omega (arith, size, length-take count slice) in
      let taken : steps_refusal short.first w.types count (Some (length slice)) ≡ None = ap (λ (n : ℕ). steps_refusal short.first w.types n (Some (length slice))) (sym resumed.size) ∙ ap (λ (g : Option ℕ). steps_refusal short.first w.types (length w.bytes) g) (sym resumed.greatest) ∙ short.taken in
      let fits = steps_fit short.first w.types count (length slice) within taken in
      let parts = ap length short.steps_are ∙ length-append short.first short.behind in
      elim short.lacks [
        | inl bytes ↦ omega (arith, bytes, resumed.ready_bytes, fits)
        | inr types ↦ omega (arith, types, resumed.ready_types, few, parts)
      ]

  same_refusal : refused ≡ refusal_by w steps
  same_refusal =
      ap (λ (ts : List ℕ). steps_refusal steps ts (length message) (Some (length slice))) (sym resumed.types)
      ∙ ap (λ (m : List ℕ). steps_refusal steps w.types (length m) (Some (length slice))) (sym resumed.bytes)
      ∙ ap (λ (g : Option ℕ). steps_refusal steps w.types (length w.bytes) g) (sym resumed.greatest)

  -- all are taken
  pub all_taken : (done : Unit {0}) (after : Writer) (room : List ℕ) (long : ℕ) → resume_fault slice count ≡ None → TakesSteps (Ok done) w after steps → room ≡ after.bytes ++ after.rest → long ≡ length after.bytes
      → TakesIn steps (plain OK) (record { slice = slice; count = count }) (record { slice = room; count = long })
  all_taken done after room long fault takes there size =
      let bytes : after.bytes ≡ after_steps message steps = takes.bytes ∙ ap (λ (m : List ℕ). after_steps m steps) resumed.bytes in
      let rest : after.rest ≡ drop (count + steps_length steps) slice = takes.rest ∙ ap (λ (r : List ℕ). drop (steps_length steps) r) resumed.rest ∙ drop-drop (steps_length steps) count slice in
      let counted : long ≡ count + steps_length steps = omega (arith, size, takes.size, resumed.size) in
      let holds : room ≡ after_steps message steps ++ drop (count + steps_length steps) slice = there ∙ ap (λ (b : List ℕ). b ++ after.rest) bytes ∙ ap (λ (r : List ℕ). after_steps message steps ++ r) rest in
      rw (fault, same_refusal ∙ takes.answer) (refl, ap (λ (s : List ℕ). record { slice = s; count = long }) holds ∙ ap (λ (n : ℕ). record { slice = after_steps message steps ++ drop (count + steps_length steps) slice; count = n }) counted)

  -- a message whose header is written again stays
  there_again : (after : Writer) (header room : List ℕ) → KeepsAttributes w.bytes after.bytes → header ≡ take 20 w.bytes → room ≡ header ++ drop 20 (after.bytes ++ after.rest) → take count room ≡ message
  there_again after header room keeps first there =
      let long : 20 ≤ length w.bytes = header_length w.bytes resumed.header in
      let twenty : length header ≡ 20 = omega (arith, ap length first, length-take 20 w.bytes, long) in
      let behind : drop 20 (after.bytes ++ after.rest) ≡ drop 20 w.bytes ++ (keeps.more ++ after.rest) =
      drop-append-le 20 after.bytes after.rest (omega (arith, long, keeps.longer)) ∙ ap (λ (l : List ℕ). l ++ after.rest) keeps.kept ∙ append_assoc (drop 20 w.bytes) keeps.more after.rest in
      let parts : count ≡ length header + length (drop 20 w.bytes) = omega (arith, twenty, length-drop 20 w.bytes, resumed.size, long) in
      ap (take count) (there ∙ ap (λ (l : List ℕ). header ++ l) behind)
      ∙ ap (λ (n : ℕ). take n (header ++ (drop 20 w.bytes ++ (keeps.more ++ after.rest)))) parts
      ∙ take-append-add header (drop 20 w.bytes ++ (keeps.more ++ after.rest)) (length (drop 20 w.bytes))
      ∙ ap (λ (l : List ℕ). header ++ l) (take-append_seam (drop 20 w.bytes) (keeps.more ++ after.rest))
      ∙ ap (λ (l : List ℕ). l ++ drop 20 w.bytes) first ∙ take-append-drop 20 w.bytes ∙ resumed.bytes

  -- one is refused
  pub one_refused : (e : StunWriteError) (after : Writer) (header room : List ℕ) (long : ℕ) → length steps ≤ 16 → resume_fault slice count ≡ None → TakesSteps {T = Unit {0}} (Err e) w after steps
      → header ≡ take 20 w.bytes → room ≡ header ++ drop 20 (after.bytes ++ after.rest) → long ≡ count → TakesIn steps (write_result e) (record { slice = slice; count = count }) (record { slice = room; count = long })
  one_refused e after header room long few fault takes first there kept = elim takes.answer [
    | inl is ↦ rw (fault, same_refusal ∙ is) (refl, kept, there_again after header room takes.keeps first there)
    | inr memory ↦ absurd (none_lacks few memory.1)
  ]

  -- the slice has a header then too
  pub room_long : {T : Type 0} (r : Result T StunWriteError) (after : Writer) (room : List ℕ) → TakesSteps r w after steps → room ≡ after.bytes ++ after.rest → 20 ≤ length room
  room_long r after room takes there = omega (arith, header_length w.bytes resumed.header, takes.keeps.longer, ap length there, length-append after.bytes after.rest)

  -- what the call returns and stores
  pub ended : (r : Result (Unit {0}) StunWriteError) (after : Writer) (header room : List ℕ) (end : ℕ) (result : CResult) (new : Written) → length steps ≤ 16 → resume_fault slice count ≡ None → TakesSteps r w after steps
      → header ≡ take 20 w.bytes → room ≡ after.bytes ++ after.rest → end ≡ length after.bytes
      → MatchResult r (λ _. (result ≡ plain OK) × (new.count ≡ end) × (new.slice ≡ room)) (λ e. (result ≡ write_result e) × (new.count ≡ count) × (new.slice ≡ header ++ drop 20 room))
      → TakesIn steps result (record { slice = slice; count = count }) new
  ended (Ok done) after header room end result new few fault takes first there size stored =
      subst (λ (q : CResult). TakesIn steps q (record { slice = slice; count = count }) new) (sym stored.0) (all_taken done after new.slice new.count fault takes (stored.2 ∙ there) (stored.1 ∙ size))
  ended (Err e) after header room end result new few fault takes first there size stored =
      subst (λ (q : CResult). TakesIn steps q (record { slice = slice; count = count }) new) (sym stored.0) (one_refused e after header new.slice new.count few fault takes first (stored.2 ∙ ap (λ (l : List ℕ). header ++ drop 20 l) there) stored.1)

-- ---- What the libraries' calls take

served : (made_for : Option IntegrityAlgorithm) (a : IntegrityAlgorithm) → serves made_for a ≡ true → signing_refusal made_for a ≡ None
served made_for a e = ap (λ (b : Bool). if b then None else Some IntegrityFailed) e

named : (name : List ℕ) → length name ≤ username_max → name_refusal name ≡ None
named name short = cond-false (nat_lt username_max (length name)) (Some (TooLarge username_max (length name))) None (le-ltb username_max (length name) short)

pub finished_by : (made_for : Option IntegrityAlgorithm) (a : IntegrityAlgorithm) (r : Result (Unit {0}) StunWriteError) (w after : Writer) (finish : ℕ → ℕ → List Attribute → List Attribute) (steps : List Step)
    → serves made_for a ≡ true → FinishesBy made_for a r w after finish steps → TakesSteps r w after steps
finished_by made_for a r w after finish steps serving by =
    let done : Finishes r w after finish steps = rw (served made_for a serving) at by in done.takes

pub answered_with : (retry : Retry) (name : List ℕ) (made_for : Option IntegrityAlgorithm) (key : List ℕ) (fingerprint : Bool) (r : Result (Unit {0}) StunWriteError) (w after : Writer)
    → length name ≤ username_max → serves made_for (signing_algorithm retry) ≡ true → AnswersWith retry name made_for key fingerprint r w after → TakesSteps r w after (login_steps fingerprint retry name key)
answered_with retry name made_for key fingerprint r w after short serving by =
    finished_by made_for (signing_algorithm retry) r w after (answering_attributes fingerprint retry name key) (login_steps fingerprint retry name key) serving (rw (named name short) at by)

-- ---- How many steps there are

pub few_ending : (a : IntegrityAlgorithm) (key : List ℕ) (fingerprint : Bool) → length (sign a key ∷ print_steps fingerprint) ≤ 16
few_ending a key true = omega arith
few_ending a key false = omega arith

few : (list : Option (List ℕ)) (p : PasswordAlgorithmValue) (fingerprint : Bool) (x y z s : Step) → length (x ∷ y ∷ z ∷ adds (algorithm_attributes list p) ++ s ∷ print_steps fingerprint) ≤ 16
few None p true x y z s = omega arith
few None p false x y z s = omega arith
few (Some list) p true x y z s = omega arith
few (Some list) p false x y z s = omega arith

pub few_login : (fingerprint : Bool) (retry : Retry) (name key : List ℕ) → length (login_steps fingerprint retry name key) ≤ 16
few_login fingerprint retry name key =
    let user = identity_attribute (asked_identity retry.asked name) in
    few retry.asked.list retry.algorithm fingerprint (add user.type user.value) (add REALM retry.asked.realm) (add NONCE retry.asked.nonce) (sign (signing_algorithm retry) key)
