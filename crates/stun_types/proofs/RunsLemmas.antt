-- A run of steps: one more step at its end, and what the whole run leaves.
use Rattle.std.proofs.Common.{◌≡◌, ℕ, ◌+◌, ◌-◌, ◌^◌, ◌<◌, ◌≤◌, List, [], ◌∷◌, ◌++◌, length, take, drop, get_or, refl, sym, ap, subst, Option, Result, Ok, Err, Some, None, arith, min, ◌∙◌, ◌⊎◌, inl, inr}
use Rattle.std.specs.Prelude.{OnOk, OnErr, All}
use Rattle.stun_grammar.specs.Parsing.{parse_fault}
use Rattle.stun_grammar.specs.Showing.{shown}
use Rattle.stun_grammar.specs.Fingerprints.{first_fingerprint_fault}
use Rattle.std.proofs.lemmas.List.{take_more, take_more_set, take_all, length-take, length-map, length-append, map-append, append-nil}
use Rattle.std.proofs.lemmas.List.Elements.{All-get_or}
use Rattle.std.proofs.Math.ListN.{set}
use Rattle.stun_grammar.specs.declared.error.StunWriteError.{StunWriteError}
use Rattle.stun_grammar.specs.Attributes.{Attribute, canonical, types, attribute_length}
use Rattle.stun_grammar.specs.Chains.{placed}
use Rattle.stun_grammar.specs.Writing.{message_encoding}
use Rattle.stun_grammar.specs.Steps.{Step as Plain, add, sign, sign_given, finger, appended_by, with_step, value_length, IsEncodable, IsOrdinaryStep as IsOrdinaryPlain}
use Rattle.stun_grammar.specs.Sending.{body_from, Sent, body, sent_encoding, MayFollow, EachMayFollow, IsAccepted}
use Rattle.stun_grammar.proofs.ShowingLemmas.{AllByRecursion-append}
use Rattle.stun_grammar.proofs.StepsSignedLemmas.{appended_is}
use Rattle.stun_grammar.proofs.StepsLemmas.{is_writable, sent_parses, sent_shows, last_validates, each_validates}
use Rattle.stun_types.specs.declared.writing.steps.Step.{Step}
use Rattle.stun_types.specs.declared.writing.steps.Step.TheVariants.{Add, Sign, SignKey, SignHmac, Fingerprint}
use Rattle.stun_grammar.specs.Adding.{appended, grown_length, add_refusal, IsAddAnswer}
use Rattle.stun_types.specs.Runs.{AddsOrdinary, MakesKey, plain, accepted, sent, IsVerdict, AreVerdicts, ValidatesLast, ValidatesEach, Writes}
use Rattle.stun_types.specs.Writers.{Writer, Spends, Adds}
use Rattle.stun_grammar.proofs.AddingLemmas.{message_more}
use Rattle.stun_grammar.proofs.AddingRefusedLemmas.{accepted_by_any}

-- ---- The attributes after more steps

body_append : (type id : ℕ) (before : List Attribute) (s t : List Plain) → body_from type id before (s ++ t) ≡ body_from type id (body_from type id before s) t
unfolding body_from
body_append type id before [] t = refl
body_append type id before (x ∷ s) t = body_append type id (with_step type id before x) s t

pub body_none : (type id : ℕ) (before : List Attribute) → body_from type id before [] ≡ before
unfolding body_from
body_none type id before = refl

body_one : (type id : ℕ) (before : List Attribute) (s : Plain) → body_from type id before (s ∷ []) ≡ with_step type id before s
unfolding body_from
body_one type id before s = refl

-- a step appends an attribute whose padding is zero
canonical_appended : (m : List ℕ) (s : Plain) → canonical (appended_by s m).type (appended_by s m).value ≡ appended_by s m
unfolding appended_by
canonical_appended m (add t v) = refl
canonical_appended m (sign a k) = refl
canonical_appended m (sign_given a h) = refl
canonical_appended m finger = refl

-- a message with what a step appends is the message with one step more
encoding_step : (type id : ℕ) (before : List Attribute) (s : Plain) (b : List ℕ) → IsEncodable s → b ≡ message_encoding type id before
    → appended b (appended_by s b).type (appended_by s b).value ≡ message_encoding type id (with_step type id before s)
encoding_step type id before s b lawful is =
    let m = message_encoding type id before in
    let fits = appended_is s m lawful in
    ap (λ (d : List ℕ). appended d (appended_by s d).type (appended_by s d).value) is
    ∙ message_more type id before (appended_by s m).type (appended_by s m).value fits.type fits.value
    ∙ ap (λ (a : Attribute). message_encoding type id (before ++ a ∷ [])) (canonical_appended m s)

types_step : (type id : ℕ) (before : List Attribute) (s : Plain) (b : List ℕ) (ts : List ℕ) → b ≡ message_encoding type id before → ts ≡ types before
    → ts ++ (appended_by s b).type ∷ [] ≡ types (with_step type id before s)
types_step type id before s b ts is e =
    ap (λ (l : List ℕ). l ++ (appended_by s b).type ∷ []) e
    ∙ ap (λ (d : List ℕ). types before ++ (appended_by s d).type ∷ []) is
    ∙ sym (map-append (λ (x : Attribute). x.type) before (appended_by s (message_encoding type id before) ∷ []))

-- ---- What a step that isn't refused has found

may_follow : (type id : ℕ) (before : List Attribute) (s : Plain) (greatest : Option ℕ)
    → add_refusal s (types before) (length (message_encoding type id before)) greatest ≡ None → MayFollow type id before s
may_follow type id before s greatest none = accepted_by_any s (types before) (length (message_encoding type id before)) greatest none

each_more : (type id : ℕ) (before : List Attribute) (steps : List Plain) (s : Plain) → EachMayFollow type id before steps → MayFollow type id (body_from type id before steps) s
    → EachMayFollow type id before (steps ++ s ∷ [])
unfolding EachMayFollow body_from
each_more type id before [] s each may = (may, tt)
each_more type id before (x ∷ steps) s each may = (each.0, each_more type id (with_step type id before x) steps s each.1 may)

-- one more accepted step, after accepted ones
accepted_one : (m : Sent) (s : Plain) → IsAccepted m → IsEncodable s → IsOrdinaryPlain s → MayFollow m.type m.id (body m) s
    → IsAccepted (record { type = m.type; id = m.id; steps = m.steps ++ s ∷ [] })
accepted_one m s ok lawful ordinary may = record {
  encodable = record { type_fits = ok.encodable.type_fits; id_fits = ok.encodable.id_fits; steps = AllByRecursion-append IsEncodable m.steps (s ∷ []) ok.encodable.steps (lawful, tt) };
  ordinary = AllByRecursion-append IsOrdinaryPlain m.steps (s ∷ []) ok.ordinary (ordinary, tt);
  accepted = each_more m.type m.id [] m.steps s ok.accepted may;
}

pub accepted_none : (type id : ℕ) → type < 2 ^ 14 → id < 2 ^ 96 → IsAccepted (record { type = type; id = id; steps = [] })
unfolding EachMayFollow
accepted_none type id t i = record { encodable = record { type_fits = t; id_fits = i; steps = tt }; ordinary = tt; accepted = tt }

free-of : (P : Type 0) (r : Option StunWriteError) (u : Unit) → IsAddAnswer r P (Ok u) → r ≡ None
free-of P (Some e) u a = absurd (cc a)
free-of P None u a = refl

-- an answer with a weaker condition for `OutOfMemory`
weaker : (P Q : Type 0) (r : Option StunWriteError) (v : Result Unit StunWriteError) → (P → Q) → IsAddAnswer r P v → IsAddAnswer r Q v
weaker P Q (Some e) v f a = a
weaker P Q None (Ok u) f a = tt
weaker P Q None (Err e) f a = (a.0, f a.1)

module _ {O : Type 0} (T : O → ℕ) (V : O → List ℕ) where
  ordinary_plain : (x : Step O) → AddsOrdinary T x → IsOrdinaryPlain (plain T V x)
  ordinary_plain (Add o) h = h
  ordinary_plain (Sign c a) h = tt
  ordinary_plain (SignKey k a) h = tt
  ordinary_plain (SignHmac hmac) h = tt
  ordinary_plain Fingerprint h = tt

  -- the verdict on a step, from the message before it and the room at the start
  pub verdict_at : (x : Step O) (v : Result Unit StunWriteError) (start : Writer) (greatest : Option ℕ) (type id : ℕ) (before : List Attribute) (b ts : List ℕ) (bytes_left types_left : ℕ)
      → b ≡ message_encoding type id before → ts ≡ types before → greatest ≡ start.greatest → start.ready_bytes ≤ bytes_left + length b → start.ready_types ≤ types_left + length ts
      → IsAddAnswer (add_refusal (plain T V x) ts (length b) greatest) (MakesKey x ⊎ (bytes_left < attribute_length (value_length (plain T V x)) ⊎ types_left < 1)) v
      → IsVerdict T V start type id before x v
  verdict_at x v start greatest type id before b ts bytes_left types_left eb et em room_bytes room_types a =
      let n : ℕ = value_length (plain T V x) in
      let len = length (message_encoding type id before) in
      let P : Type 0 = MakesKey x ⊎ (bytes_left < attribute_length n ⊎ types_left < 1) in
      let Q : Type 0 = MakesKey x ⊎ (start.ready_bytes < grown_length len n ⊎ start.ready_types < length before + 1) in
      let long : length b ≡ len = ap length eb in
      let many : length ts ≡ length before = ap length et ∙ length-map before (λ (y : Attribute). y.type) in
      let wide : P → Q = elim [ inl k ↦ inl k | inr h ↦ inr (elim h [ inl l ↦ inl (omega arith) | inr l ↦ inr (omega arith) ]) ] in
      let here : IsAddAnswer (add_refusal (plain T V x) ts (length b) greatest) Q v = weaker P Q (add_refusal (plain T V x) ts (length b) greatest) v wide a in
      subst (λ (m : Option ℕ). IsAddAnswer (add_refusal (plain T V x) (types before) len m) Q v) em
      (subst (λ (t : List ℕ). IsAddAnswer (add_refusal (plain T V x) t len greatest) Q v) et
      (subst (λ (k : ℕ). IsAddAnswer (add_refusal (plain T V x) ts k greatest) Q v) long here))

  accepted_append : (xs : List (Step O)) (vs : List (Result Unit StunWriteError)) (x : Step O) (v : Result Unit StunWriteError) → length xs ≡ length vs
      → accepted T V (xs ++ x ∷ []) (vs ++ v ∷ []) ≡ accepted T V xs vs ++ accepted T V (x ∷ []) (v ∷ [])
  accepted_append [] [] x v e = refl
  accepted_append [] (w ∷ vs) x v e = absurd (omega arith)
  accepted_append (y ∷ xs) [] x v e = absurd (omega arith)
  accepted_append (y ∷ xs) (Ok u ∷ vs) x v e = ap (λ (s : List Plain). plain T V y ∷ s) (accepted_append xs vs x v (omega arith))
  accepted_append (y ∷ xs) (Err r ∷ vs) x v e = accepted_append xs vs x v (omega arith)

  verdicts_one : (start : Writer) (type id : ℕ) (before : List Attribute) (x : Step O) (v : Result Unit StunWriteError) → IsVerdict T V start type id before x v → AreVerdicts T V start type id before (x ∷ []) (v ∷ [])
  verdicts_one start type id before x (Ok u) one = (one, tt)
  verdicts_one start type id before x (Err e) one = (one, tt)

  verdicts_append : (start : Writer) (type id : ℕ) (before : List Attribute) (xs : List (Step O)) (vs : List (Result Unit StunWriteError)) (x : Step O) (v : Result Unit StunWriteError)
      → length xs ≡ length vs → AreVerdicts T V start type id before xs vs
      → IsVerdict T V start type id (body_from type id before (accepted T V xs vs)) x v
      → AreVerdicts T V start type id before (xs ++ x ∷ []) (vs ++ v ∷ [])
  unfolding body_from
  verdicts_append start type id before [] [] x v e all one = verdicts_one start type id before x v one
  verdicts_append start type id before [] (w ∷ vs) x v e all one = absurd (omega arith)
  verdicts_append start type id before (y ∷ xs) [] x v e all one = absurd (omega arith)
  verdicts_append start type id before (y ∷ xs) (Ok u ∷ vs) x v e all one = (all.0, verdicts_append start type id (with_step type id before (plain T V y)) xs vs x v (omega arith) all.1 one)
  verdicts_append start type id before (y ∷ xs) (Err r ∷ vs) x v e all one = (all.0, verdicts_append start type id before xs vs x v (omega arith) all.1 one)

  encoding_after : (type id : ℕ) (xs : List Attribute) (x : Step O) (v : Result Unit StunWriteError) (b new : List ℕ) → IsEncodable (plain T V x)
      → b ≡ message_encoding type id xs → (let a = appended_by (plain T V x) b in OnOk v (new ≡ appended b a.type a.value)) → OnErr v (new ≡ b)
      → new ≡ message_encoding type id (body_from type id xs (accepted T V (x ∷ []) (v ∷ [])))
  encoding_after type id xs x (Ok u) b new lawful is ok err = ok ∙ encoding_step type id xs (plain T V x) b lawful is ∙ ap (message_encoding type id) (sym (body_one type id xs (plain T V x)))
  encoding_after type id xs x (Err e) b new lawful is ok err = err ∙ is ∙ ap (message_encoding type id) (sym (body_none type id xs))

  types_after : (type id : ℕ) (xs : List Attribute) (x : Step O) (v : Result Unit StunWriteError) (b ts new : List ℕ)
      → b ≡ message_encoding type id xs → ts ≡ types xs → (let a = appended_by (plain T V x) b in OnOk v (new ≡ ts ++ a.type ∷ [])) → OnErr v (new ≡ ts)
      → new ≡ types (body_from type id xs (accepted T V (x ∷ []) (v ∷ [])))
  types_after type id xs x (Ok u) b ts new is e ok err = ok ∙ types_step type id xs (plain T V x) b ts is e ∙ ap types (sym (body_one type id xs (plain T V x)))
  types_after type id xs x (Err r) b ts new is e ok err = err ∙ e ∙ ap types (sym (body_none type id xs))

  module _ (type id : ℕ) (xs : List (Step O)) (vs : List (Result Unit StunWriteError)) (i : ℕ) (x : Step O) (v : Result Unit StunWriteError)
      (within : i < length xs) (count : length vs ≡ length xs) (is : x ≡ get_or xs i x) where
    abbrev now : Sent
    now = sent T V type id (take i xs) (take i vs)

    abbrev before : List Attribute
    before = body now

    abbrev one : List Plain
    one = accepted T V (x ∷ []) (v ∷ [])

    abbrev next : Sent
    next = sent T V type id (take (i + 1) xs) (take (i + 1) (set vs i v))

    prefix : take (i + 1) xs ≡ take i xs ++ x ∷ []
    prefix = take_more xs i x within ∙ ap (λ (y : Step O). take i xs ++ y ∷ []) (sym is)

    marks : take (i + 1) (set vs i v) ≡ take i vs ++ v ∷ []
    marks = take_more_set vs i v (omega arith)

    same : length (take i xs) ≡ length (take i vs)
    same = length-take i xs ∙ ap (λ (n : ℕ). min i n) (sym count) ∙ sym (length-take i vs)

    steps_more : next.steps ≡ now.steps ++ one
    steps_more = rw (prefix, marks) (accepted_append (take i xs) (take i vs) x v same)

    body_more : body next ≡ body_from type id before one
    body_more = ap (body_from type id []) steps_more ∙ body_append type id [] now.steps one

    pub verdicts_more : (start : Writer) → AreVerdicts T V start type id [] (take i xs) (take i vs) → IsVerdict T V start type id before x v
        → AreVerdicts T V start type id [] (take (i + 1) xs) (take (i + 1) (set vs i v))
    verdicts_more start all on = rw (prefix, marks) (verdicts_append start type id [] (take i xs) (take i vs) x v same all on)

    pub written_more : (b new : List ℕ) → IsEncodable (plain T V x) → b ≡ message_encoding type id before
        → (let a = appended_by (plain T V x) b in OnOk v (new ≡ appended b a.type a.value)) → OnErr v (new ≡ b)
        → new ≡ message_encoding type id (body next)
    written_more b new lawful at ok err = encoding_after type id before x v b new lawful at ok err ∙ ap (message_encoding type id) (sym body_more)

    pub listed_more : (b ts new : List ℕ) → b ≡ message_encoding type id before → ts ≡ types before
        → (let a = appended_by (plain T V x) b in OnOk v (new ≡ ts ++ a.type ∷ [])) → OnErr v (new ≡ ts)
        → new ≡ types (body next)
    listed_more b ts new at e ok err = types_after type id before x v b ts new at e ok err ∙ ap types (sym body_more)

    accepted_after : (w : Result Unit StunWriteError) (start : Writer) → IsAccepted now → IsEncodable (plain T V x) → AddsOrdinary T x → IsVerdict T V start type id before x w
        → IsAccepted (record { type = type; id = id; steps = now.steps ++ accepted T V (x ∷ []) (w ∷ []) })
    accepted_after (Ok u) start ok lawful ordinary on =
        accepted_one now (plain T V x) ok lawful (ordinary_plain x ordinary) (may_follow type id before (plain T V x) start.greatest (free-of (MakesKey x ⊎ (start.ready_bytes < grown_length (length (message_encoding type id before)) (value_length (plain T V x)) ⊎ start.ready_types < length before + 1)) _ u on))
    accepted_after (Err e) start ok lawful ordinary on = rw (append-nil now.steps) ok

    pub accepted_more : (start : Writer) → IsAccepted now → IsEncodable (plain T V x) → All (AddsOrdinary T) xs → IsVerdict T V start type id before x v → IsAccepted next
    accepted_more start ok lawful ordinary on =
        subst (λ (s : List Plain). IsAccepted (record { type = type; id = id; steps = s })) (sym steps_more)
        (accepted_after v start ok lawful (subst (AddsOrdinary T) (sym is) (All-get_or (AddsOrdinary T) xs i x within ordinary)) on)

-- what is read from the bytes that accepted steps write
pub record IsReadBack (message : Sent) (b : List ℕ) : Type 0 where
  pub parses : parse_fault b ≡ None
  pub shows : shown b ≡ placed 20 (body message)
  pub fingerprint : first_fingerprint_fault b (shown b) ≡ None
  pub last : ValidatesLast message b
  pub each : ValidatesEach message b

read_encoding : (message : Sent) → IsAccepted message → IsReadBack message (sent_encoding message)
read_encoding message ok = record {
  parses = sent_parses message ok;
  shows = sent_shows message ok;
  fingerprint = ap (first_fingerprint_fault (sent_encoding message)) (sent_shows message ok) ∙ (is_writable message ok).fingerprint;
  last = λ before behind step algorithm key is own none. last_validates message before behind step algorithm key ok is own none;
  each = λ before behind step algorithm key is own. each_validates message before behind step algorithm key ok is own;
}

-- ---- A run so far

module _ {O : Type 0} (T : O → ℕ) (V : O → List ℕ) where
  -- what the steps so far have left, with their verdicts
  pub record WritesSoFar (old new : Writer) (type id : ℕ) (steps : List (Step O)) (verdicts : List (Result Unit StunWriteError)) : Type 0 where
    pub each : AreVerdicts T V old type id [] steps verdicts
    pub bytes : new.bytes ≡ message_encoding type id (body (sent T V type id steps verdicts))
    pub types : new.types ≡ types (body (sent T V type id steps verdicts))
    pub accepted : IsAccepted (sent T V type id steps verdicts)
    pub rest : new.rest ≡ drop (length new.bytes) old.rest
    pub spends : Spends old new (length new.bytes) (length new.types)

  -- and at the end of the list
  pub writes_all : (old new : Writer) (type id : ℕ) (xs : List (Step O)) (vs : List (Result Unit StunWriteError)) (i : ℕ) → length xs ≤ i → length vs ≡ length xs
      → WritesSoFar old new type id (take i xs) (take i vs) → Writes T V old new type id xs vs
  writes_all old new type id xs vs i within count so_far =
      let all : WritesSoFar old new type id xs vs =
      subst (λ (ys : List (Step O)). WritesSoFar old new type id ys vs) (take_all i xs within)
      (subst (λ (ws : List (Result Unit StunWriteError)). WritesSoFar old new type id (take i xs) ws) (take_all i vs (omega arith)) so_far) in
      let read : IsReadBack (sent T V type id xs vs) new.bytes = subst (IsReadBack (sent T V type id xs vs)) (sym all.bytes) (read_encoding (sent T V type id xs vs) all.accepted) in
      record {
        each = all.each;
        encodable = all.accepted.encodable;
        bytes = all.bytes;
        types = all.types;
        rest = all.rest;
        spends = all.spends;
        parses = read.parses;
        shows = read.shows;
        fingerprint = read.fingerprint;
        last = read.last;
        own = read.each;
      }

-- ---- What an addition leaves, in lengths

pub record Leaves {E : Type 0} (result : Result (Unit {0}) E) (old new : Writer) (type : ℕ) (value : List ℕ) : Type 0 where
  pub bytes : OnOk result (new.bytes ≡ appended old.bytes type value)
  pub types : OnOk result (new.types ≡ old.types ++ type ∷ [])
  pub same_bytes : OnErr result (new.bytes ≡ old.bytes)
  pub same_types : OnErr result (new.types ≡ old.types)
  pub rest : new.rest ≡ drop (length new.bytes - length old.bytes) old.rest
  pub grows : length old.bytes ≤ length new.bytes
  pub ready_bytes : old.ready_bytes + length old.bytes ≤ new.ready_bytes + length new.bytes
  pub ready_types : old.ready_types + length old.types ≤ new.ready_types + length new.types

pub leaves : {E : Type 0} (result : Result (Unit {0}) E) (old new : Writer) (type : ℕ) (value : List ℕ) → Adds result old new type value → Leaves result old new type value
leaves {E} (Ok u) old new type value adds =
    let size : length new.bytes ≡ length old.bytes + attribute_length (length value) = adds.ok.size in
    let count : length new.types ≡ length old.types + 1 = ap length adds.ok.types ∙ length-append old.types (type ∷ []) in
    let added : length new.bytes - length old.bytes ≡ attribute_length (length value) = omega (arith, size) in
    record {
      bytes = adds.ok.bytes;
      types = adds.ok.types;
      same_bytes = tt;
      same_types = tt;
      rest = adds.ok.rest ∙ ap (λ (n : ℕ). drop n old.rest) (sym added);
      grows = omega (arith, size);
      ready_bytes = omega (arith, size, adds.spends.ready_bytes);
      ready_types = omega (arith, count, adds.spends.ready_types);
    }
leaves {E} (Err e) old new type value adds =
    let size : length new.bytes ≡ length old.bytes = ap length adds.err.bytes in
    let count : length new.types ≡ length old.types = ap length adds.err.types in
    let added : length new.bytes - length old.bytes ≡ 0 = omega (arith, size) in
    record {
      bytes = tt;
      types = tt;
      same_bytes = adds.err.bytes;
      same_types = adds.err.types;
      rest = adds.err.rest ∙ ap (λ (n : ℕ). drop n old.rest) (sym added);
      grows = omega (arith, size);
      ready_bytes = omega (arith, size, adds.err.ready_bytes);
      ready_types = omega (arith, count, adds.err.ready_types);
    }
