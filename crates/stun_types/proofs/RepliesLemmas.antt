-- A reply is written attribute by attribute, up to a refusal.
use Rattle.std.proofs.Common.{◌≡◌, ℕ, ◌+◌, ◌*◌, ◌/◌, ◌%◌, ◌^◌, ◌<◌, ◌≤◌, ◌⊎◌, Bool, true, false, List, [], ◌∷◌, ◌++◌, length, take, drop, map, get_or, Option, Some, None, Result, Ok, Err, refl, sym, ap, subst, ◌∙◌, append_assoc, arith, inl, inr}
use Rattle.std.specs.Prelude.{◌≢◌, ◌&&◌, ◌==◌, IsOk, OnOk, IfErr, MatchOption, MatchResult, is_some, if◌then◌else◌, codes}
use Rattle.std.specs.Option.{option_or}
use Rattle.std.proofs.lemmas.Bool.{eq-eqb, cases_lt, lt-ltb, le-ltb}
use Rattle.std.proofs.lemmas.List.{length-append, map-append, append-nil, drop-drop, take_more, drop_more, drop_all}
use Rattle.stun_grammar.specs.declared.error.StunWriteError.{StunWriteError}
use Rattle.stun_grammar.specs.declared.error.StunWriteError.TheVariants.{TooLarge, OutOfMemory}
use Rattle.stun_grammar.specs.declared.attribute_type.AttributeType.{AttributeType}
use Rattle.stun_grammar.specs.AttributeTypes.{UNKNOWN_ATTRIBUTES, IsOrdinary}
use Rattle.stun_grammar.specs.Attributes.{Attribute, canonical, encodings, types, attribute_length}
use Rattle.stun_grammar.specs.Headers.{is_header, type_field, id_field}
use Rattle.stun_grammar.specs.Chains.{placed}
use Rattle.stun_grammar.specs.Parsing.{parse_fault}
use Rattle.stun_grammar.specs.Showing.{shown}
use Rattle.stun_grammar.specs.Writing.{message_encoding, IsWritable}
use Rattle.stun_grammar.specs.Steps.{add, appended_by}
use Rattle.stun_grammar.specs.Adding.{appended, add_refusal, IsAddAnswer}
use Rattle.stun_grammar.proofs.WritingLemmas.{length-message, type-message, id-message, parse-message, shown-message}
use Rattle.stun_grammar.proofs.AddingLemmas.{message_more, encoding_begins}
use Rattle.stun_grammar.proofs.AddingRefusedLemmas.{accepted_by_any}
use Rattle.stun_grammar.proofs.StepsLemmas.{step_writable, none_writable}
use Rattle.stun_base.specs.declared.message_class.MessageClass.{MessageClass}
use Rattle.stun_base.specs.declared.message_class.MessageClass.TheVariants.{Request, Indication, Success, Error as ErrorClass}
use Rattle.stun_base.specs.MessageTypes.{type_of, class_of, method_of, is_response}
use Rattle.stun_attributes.specs.declared.error_code.ErrorCode.{ErrorCode}
use Rattle.stun_values.specs.ErrorValues.{error_value, making_fault}
use Rattle.stun_attributes.specs.ErrorCodes.{error_code, error_reason, IsError, MakesError}
use Rattle.stun_values.specs.TypeLists.{type_encoding, types_encoding}
use Rattle.stun_types.specs.Writers.{Writer, IsBegun, IsUnchanged, Spends, Gains, Adds}
use Rattle.stun_types.specs.Replies.{is_answer_to, response_type, own_software, error_attribute, unknown_reply, making_refusal, refusal, first_refusal, accepted, IsReply, IsPartOfReply, Replies, attribute_of, AddsMade}
use Rattle.stun_types.specs.declared.message.reply.parts.ReplyPart.{ReplyPart}
use Rattle.stun_types.specs.declared.message.reply.parts.ReplyPart.TheVariants.{Software, Error, Types}

-- ---- A reply and its header

class_kept : (class : MessageClass) (method : ℕ) → is_response class ≡ true → class_of (type_of class method) ≡ class
class_kept Request method e = absurd cc
class_kept Indication method e = absurd cc
class_kept Success method e =
    let high : type_of Success method / 0x100 % 2 ≡ 1 = omega arith in
    let low : type_of Success method / 0x10 % 2 ≡ 0 = omega arith in
    rw (high, low) refl
class_kept ErrorClass method e =
    let high : type_of ErrorClass method / 0x100 % 2 ≡ 1 = omega arith in
    let low : type_of ErrorClass method / 0x10 % 2 ≡ 1 = omega arith in
    rw (high, low) refl

method_kept : (class : MessageClass) (type : ℕ) → method_of (type_of class (method_of type)) ≡ method_of type
method_kept Request type = omega arith
method_kept Indication type = omega arith
method_kept Success type = omega arith
method_kept ErrorClass type = omega arith

both : (a b c : Bool) → a ≡ true → b ≡ true → c ≡ true → (a && (b && c)) ≡ true
both true true true x y z = refl
both true true false x y z = absurd cc
both true false c x y z = absurd cc
both false b c x y z = absurd cc

-- bytes that may be written, with the type of a response and the transaction ID of a request,
-- answer the request
pub answers_request : (class : MessageClass) (r : List ℕ) (attributes : List Attribute) → is_response class ≡ true → IsWritable (response_type class r) (id_field r) attributes
    → is_answer_to r (message_encoding (response_type class r) (id_field r) attributes) ≡ true
answers_request class r attributes responds so =
    let d = message_encoding (response_type class r) (id_field r) attributes in
    let type = type-message (response_type class r) (id_field r) attributes so.type_fits in
    both (is_response (class_of (type_field d))) (method_of (type_field d) == method_of (type_field r)) (id_field d == id_field r)
    (ap (λ (t : ℕ). is_response (class_of t)) type ∙ ap is_response (class_kept class (method_of (type_field r)) responds) ∙ responds)
    (eq-eqb (method_of (type_field d)) (method_of (type_field r)) (ap method_of type ∙ method_kept class (type_field r)))
    (eq-eqb (id_field d) (id_field r) (id-message (response_type class r) (id_field r) attributes so.id_fits))

-- what is written of a message that may be written is a reply
reply_from : (old new : Writer) (r : List ℕ) (attributes : List Attribute) → IsWritable (response_type ErrorClass r) (id_field r) attributes
    → new.bytes ≡ message_encoding (response_type ErrorClass r) (id_field r) attributes → new.types ≡ types attributes → new.rest ≡ drop (length new.bytes) old.rest
    → Spends old new (length new.bytes) (length new.types) → IsReply old new r attributes
reply_from old new r attributes so bytes kinds rest spends = record {
  bytes = bytes;
  header = subst (λ (b : List ℕ). is_header b ≡ true) (sym bytes) (encoding_begins (response_type ErrorClass r) (id_field r) attributes so.type_fits);
  types = kinds;
  rest = rest;
  spends = spends;
  parses = subst (λ (b : List ℕ). parse_fault b ≡ None) (sym bytes) (parse-message (response_type ErrorClass r) (id_field r) attributes so);
  shows = subst (λ (b : List ℕ). shown b ≡ placed 20 attributes) (sym bytes) (shown-message (response_type ErrorClass r) (id_field r) attributes so);
  answers = subst (λ (b : List ℕ). is_answer_to r b ≡ true) (sym bytes) (answers_request ErrorClass r attributes refl so);
  writable = so;
}

pub begun_reply : (old new : Writer) (r : List ℕ) → IsBegun old new (response_type ErrorClass r) (id_field r) → IsReply old new r []
begun_reply old new r begun =
    reply_from old new r [] (none_writable (response_type ErrorClass r) (id_field r) begun.type_fits begun.id_fits) begun.bytes begun.types (begun.rest ∙ ap (λ (n : ℕ). drop n old.rest) (sym begun.size))
    (record {
      greatest = begun.spends.greatest;
      slice_name = begun.spends.slice_name;
      ready_bytes = omega (arith, begun.size, begun.spends.ready_bytes);
      ready_types = omega (arith, begun.spends.ready_types);
    })

-- ---- One more attribute

-- why an attribute is refused, from what the writer holds
refusal_at : (old mid : Writer) (r : List ℕ) (before : List Attribute) (a : Attribute) → IsReply old mid r before
    → option_or (making_refusal a.value) (add_refusal (add a.type a.value) mid.types (length mid.bytes) mid.greatest) ≡ refusal old.greatest before a
unfolding refusal
refusal_at old mid r before a reply =
    let size : length mid.bytes ≡ 20 + length (encodings before) = ap length reply.bytes ∙ length-message (response_type ErrorClass r) (id_field r) before in
    rw (reply.types, size, reply.spends.greatest) refl

second : {A : Type 0} (o p : Option A) → option_or o p ≡ None → p ≡ None
second None p e = e
second (Some x) p e = absurd cc

-- the reply with one more attribute
pub reply_more : (old mid new : Writer) (r : List ℕ) (before : List Attribute) (type : ℕ) (value : List ℕ) → IsReply old mid r before → type < 2 ^ 16 → length value < 2 ^ 16 → IsOrdinary type
    → refusal old.greatest before (canonical type value) ≡ None → Gains mid new type value → Spends mid new (attribute_length (length value)) 1
    → IsReply old new r (before ++ canonical type value ∷ [])
unfolding appended_by
reply_more old mid new r before type value reply t v ordinary none gains spends =
    let kind = response_type ErrorClass r in
    let id = id_field r in
    let free : add_refusal (add type value) mid.types (length mid.bytes) mid.greatest ≡ None = second (making_refusal value) _ (refusal_at old mid r before (canonical type value) reply ∙ none) in
    let may : add_refusal (add type value) (types before) (length (message_encoding kind id before)) None ≡ None =
    accepted_by_any (add type value) (types before) (length (message_encoding kind id before)) mid.greatest
    (sym (ap (λ (ts : List ℕ). add_refusal (add type value) ts (length mid.bytes) mid.greatest) reply.types ∙ ap (λ (b : List ℕ). add_refusal (add type value) (types before) (length b) mid.greatest) reply.bytes) ∙ free) in
    let size : length new.bytes ≡ length mid.bytes + attribute_length (length value) = gains.size in
    let count : length new.types ≡ length mid.types + 1 = ap length gains.types ∙ length-append mid.types (type ∷ []) in
    reply_from old new r (before ++ canonical type value ∷ [])
    (step_writable kind id before (add type value) reply.writable may (t, v) ordinary)
    (gains.bytes ∙ ap (λ (b : List ℕ). appended b type value) reply.bytes ∙ message_more kind id before type value t v)
    (gains.types ∙ ap (λ (ts : List ℕ). ts ++ type ∷ []) reply.types ∙ sym (map-append (λ (x : Attribute). x.type) before (canonical type value ∷ [])))
    (gains.rest ∙ ap (drop (attribute_length (length value))) reply.rest ∙ drop-drop (attribute_length (length value)) (length mid.bytes) old.rest ∙ ap (λ (n : ℕ). drop n old.rest) (sym size))
    (record {
      greatest = spends.greatest ∙ reply.spends.greatest;
      slice_name = spends.slice_name ∙ reply.spends.slice_name;
      ready_bytes = omega (arith, size, spends.ready_bytes, reply.spends.ready_bytes);
      ready_types = omega (arith, count, spends.ready_types, reply.spends.ready_types);
    })

-- if nothing changes, the reply stays
reply_same : (old mid new : Writer) (r : List ℕ) (before : List Attribute) (n : ℕ) → IsReply old mid r before → IsUnchanged mid new → Spends mid new n 1 → IsReply old new r before
reply_same old mid new r before n reply same spends =
    let size : length new.bytes ≡ length mid.bytes = ap length same.bytes in
    let count : length new.types ≡ length mid.types = ap length same.types in
    reply_from old new r before reply.writable (same.bytes ∙ reply.bytes) (same.types ∙ reply.types) (same.rest ∙ reply.rest ∙ ap (λ (n : ℕ). drop n old.rest) (sym size))
    (record {
      greatest = spends.greatest ∙ reply.spends.greatest;
      slice_name = spends.slice_name ∙ reply.spends.slice_name;
      ready_bytes = omega (arith, size, same.ready_bytes, reply.spends.ready_bytes);
      ready_types = omega (arith, count, same.ready_types, reply.spends.ready_types);
    })

-- ---- The attributes from one on

-- from a writer that holds a reply with the attributes `before`, the result of writing more
pub record Reaches {T : Type 0} (result : Result T StunWriteError) (old new : Writer) (r : List ℕ) (before attributes : List Attribute) : Type 0 where
  pub answer : result ≢ Err OutOfMemory → MatchOption (first_refusal old.greatest before attributes) (IsOk result) (λ e. result ≡ Err e)
  pub ok : OnOk result (IsReply old new r (before ++ attributes))
  pub err : IfErr result (λ e. (e ≢ OutOfMemory → IsReply old new r (before ++ accepted old.greatest before attributes)) × (e ≡ OutOfMemory → IsUnchanged old new ⊎ IsPartOfReply old new r (before ++ attributes)))
  pub spends : Spends old new (length new.bytes) (length new.types)

pub reaches_all : {T : Type 0} (result : Result T StunWriteError) (old new : Writer) (r : List ℕ) (attributes : List Attribute) → Reaches result old new r [] attributes → Replies result old new r attributes
reaches_all result old new r attributes all = record { answer = all.answer; ok = all.ok; err = all.err; spends = all.spends }

abbrev done : Result (Unit {0}) StunWriteError
done = Ok tt

abbrev fails : (T : Type 0) → StunWriteError → Result T StunWriteError
fails T e = Err e

-- no attribute is left
pub reaches_end : {T : Type 0} (x : T) (old new : Writer) (r : List ℕ) (before : List Attribute) → IsReply old new r before → Reaches (Ok x) old new r before []
unfolding first_refusal
reaches_end x old new r before holds = record {
  answer = λ _. refl;
  ok = subst (IsReply old new r) (sym (append-nil before)) holds;
  err = tt;
  spends = holds.spends;
}

-- if an attribute is refused, its refusal is that of the list, and those before it are written
refused_here : {T : Type 0} (e : StunWriteError) (old new : Writer) (r : List ℕ) (before : List Attribute) (a : Attribute) (attributes : List Attribute) (why : Option StunWriteError)
    → why ≡ refusal old.greatest before a → (fails (Unit {0}) e ≢ Err OutOfMemory → MatchOption why (IsOk (fails (Unit {0}) e)) (λ x. fails (Unit {0}) e ≡ Err x))
    → IsReply old new r before → Reaches (fails T e) old new r before (a ∷ attributes)
unfolding first_refusal accepted
refused_here {T} e old new r before a attributes None is answer holds = record {
  answer = λ not. absurd (nothing not);
  ok = tt;
  err = (λ not. absurd (nothing (λ same. not (cc same))), λ _. inr (record { written = before; others = a ∷ attributes; whole = refl; left_out = λ none. cc none; reply = holds }));
  spends = holds.spends;
}
  where
    nothing : ((fails T e) ≢ Err OutOfMemory) → ⊥
    nothing not = absurd (cc (answer (λ same. not (cc same))))
refused_here {T} e old new r before a attributes (Some x) is answer holds = record {
  answer = λ not. subst (λ (o : Option StunWriteError). MatchOption (option_or o (first_refusal old.greatest (before ++ a ∷ []) attributes)) (IsOk (fails T e)) (λ y. fails T e ≡ Err y)) is (ap Err (cc (answer (λ same. not (cc same)))));
  ok = tt;
  err = (
    λ not. subst (λ (o : Option StunWriteError). IsReply old new r (before ++ (if is_some o then [] else a ∷ accepted old.greatest (before ++ a ∷ []) attributes))) is (subst (IsReply old new r) (sym (append-nil before)) holds),
    λ _. inr (record { written = before; others = a ∷ attributes; whole = refl; left_out = λ none. cc none; reply = holds }),
  );
  spends = holds.spends;
}

-- an attribute that is made, added and accepted, and then those after it
pub reaches_more : {T : Type 0} (result : Result T StunWriteError) (old new : Writer) (r : List ℕ) (before : List Attribute) (a : Attribute) (attributes : List Attribute)
    → refusal old.greatest before a ≡ None → Reaches result old new r (before ++ a ∷ []) attributes → Reaches result old new r before (a ∷ attributes)
unfolding first_refusal accepted
reaches_more result old new r before a attributes none more =
    let next = before ++ a ∷ [] in
    let whole : next ++ attributes ≡ before ++ a ∷ attributes = append_assoc before (a ∷ []) attributes in
    let reached : next ++ accepted old.greatest next attributes ≡ before ++ accepted old.greatest before (a ∷ attributes) =
    append_assoc before (a ∷ []) (accepted old.greatest next attributes) ∙ ap (λ (o : Option StunWriteError). before ++ (if is_some o then [] else a ∷ accepted old.greatest next attributes)) (sym none) in
    record {
      answer = λ not. subst (λ (o : Option StunWriteError). MatchOption (option_or o (first_refusal old.greatest next attributes)) (IsOk result) (λ e. result ≡ Err e)) (sym none) (more.answer not);
      ok = subst (λ (xs : List Attribute). OnOk result (IsReply old new r xs)) whole more.ok;
      err = subst (λ (xs : List Attribute). IfErr result (λ e. (e ≢ OutOfMemory → IsReply old new r (before ++ accepted old.greatest before (a ∷ attributes))) × (e ≡ OutOfMemory → IsUnchanged old new ⊎ IsPartOfReply old new r xs))) whole
          (subst (λ (xs : List Attribute). IfErr result (λ e. (e ≢ OutOfMemory → IsReply old new r xs) × (e ≡ OutOfMemory → IsUnchanged old new ⊎ IsPartOfReply old new r (next ++ attributes)))) reached more.err);
      spends = more.spends;
    }

-- ---- One attribute that is made and added

abbrev made : ErrorCode → Result ErrorCode StunWriteError
made error = Ok error

short_enough : (value : List ℕ) → length value < 2 ^ 16 → making_refusal value ≡ None
short_enough value short = rw (le-ltb 65535 (length value) (omega (arith, short))) refl

-- an attribute that was made, by what adding it answers
pub adds_made : (P : Type 0) (result : Result (Unit {0}) StunWriteError) (old new : Writer) (type : ℕ) (value : List ℕ)
    → IsAddAnswer (add_refusal (add type value) old.types (length old.bytes) old.greatest) P result → Adds result old new type value → length value < 2 ^ 16
    → AddsMade result old new (canonical type value)
adds_made P result old new type value answer adds fits = record {
  answer = λ not. subst (λ (o : Option StunWriteError). MatchOption (option_or o (add_refusal (add type value) old.types (length old.bytes) old.greatest)) (IsOk result) (λ e. result ≡ Err e)) (sym (short_enough value fits))
      (go (add_refusal (add type value) old.types (length old.bytes) old.greatest) result not answer);
  adds = adds;
  fits = always result;
}
  where
    go : (why : Option StunWriteError) (r : Result (Unit {0}) StunWriteError) → r ≢ Err OutOfMemory → IsAddAnswer why P r → MatchOption why (IsOk r) (λ e. r ≡ Err e)
    go None (Ok u) not a = refl
    go None (Err e) not a = absurd (not (ap Err a.0))
    go (Some x) r not a = a

    always : (r : Result (Unit {0}) StunWriteError) → OnOk r (length value < 2 ^ 16)
    always (Ok u) = fits
    always (Err e) = tt

-- what is made of a code and a reason that may be those of an ERROR-CODE
pub made_error : (code : ℕ) (reason : List ℕ) (error : ErrorCode) → making_fault code reason ≡ None → MakesError code reason (Ok error)
    → error_value (error_code error) (error_reason error) ≡ error_value code reason
made_error code reason error none makes = go (making_fault code reason) none makes
  where
    go : (why : Option StunWriteError) → why ≡ None → MatchOption why (MatchResult (made error) (IsError code reason) (λ e. e ≡ OutOfMemory)) (λ e. made error ≡ Err e) → error_value (error_code error) (error_reason error) ≡ error_value code reason
    go None e is = rw (is.code_is, is.reason_is) refl
    go (Some x) e is = absurd cc

length_of_types : (types : List AttributeType) → length (types_encoding types) ≡ 2 * length types
length_of_types [] = refl
length_of_types (type ∷ types) = omega (arith, length_of_types types, length-append (type_encoding type) (types_encoding types))

-- a part whose value is made is the attribute
pub made_is : (part : ReplyPart) (result : Result (Unit {0}) StunWriteError) (old new : Writer) (type : ℕ) (value text : List ℕ) → value ≡ text → attribute_of part ≡ canonical type text
    → AddsMade result old new (canonical type value) → AddsMade result old new (attribute_of part)
made_is part result old new type value text same is adds = subst (AddsMade result old new) (ap (canonical type) same ∙ sym is) adds

-- an UNKNOWN-ATTRIBUTES that isn't made
pub not_made : (result : Result (Unit {0}) StunWriteError) (w : Writer) (part : ReplyPart) (types : List AttributeType) (x : StunWriteError)
    → attribute_of part ≡ canonical UNKNOWN_ATTRIBUTES (types_encoding types) → result ≡ Err x
    → (32767 < length types → x ≡ TooLarge 32767 (length types)) → (length types ≤ 32767 → x ≡ OutOfMemory)
    → AddsMade result w w (attribute_of part)
not_made result w part types x part-is is large small =
    subst (AddsMade result w w) (sym part-is)
    (subst (λ (q : Result (Unit {0}) StunWriteError). AddsMade q w w (canonical UNKNOWN_ATTRIBUTES (types_encoding types))) (sym is) (record {
      answer = λ not. elim (cases_lt 32767 (length types)) [
        | inl many ↦ subst (λ (o : Option StunWriteError). MatchOption (option_or o (add_refusal (add UNKNOWN_ATTRIBUTES (types_encoding types)) w.types (length w.bytes) w.greatest)) (IsOk (fails (Unit {0}) x)) (λ e. fails (Unit {0}) x ≡ Err e)) (sym (too_many many)) (ap Err (large many))
        | inr few ↦ absurd (not (ap Err (small few)))
      ];
      adds = record {
        ok = tt;
        err = record { bytes = refl; types = refl; rest = refl; ready_bytes = omega arith; ready_types = omega arith };
        spends = record { greatest = refl; slice_name = refl; ready_bytes = omega arith; ready_types = omega arith };
        header = record { header = λ e. e; type = refl; id = refl };
      };
      fits = tt;
    }))
  where
    too_many : 32767 < length types → making_refusal (types_encoding types) ≡ Some (TooLarge 32767 (length types))
    too_many many =
        let long = length_of_types types in
        let half : length (types_encoding types) / 2 ≡ length types = omega (arith, long) in
        rw (lt-ltb 65535 (length (types_encoding types)) (omega (arith, long, many)), half) refl

-- ---- What making and adding an attribute answers

free_of : (made : Result (Unit {0}) StunWriteError) (why : Option StunWriteError) → IsOk made → (made ≢ Err OutOfMemory → MatchOption why (IsOk made) (λ e. made ≡ Err e)) → why ≡ None
free_of (Ok u) None ok answer = refl
free_of (Ok u) (Some e) ok answer = absurd (cc (answer (λ same. absurd (cc same))))
free_of (Err e) why ok answer = absurd cc

-- if an attribute was added, the writer holds the reply with it, and it wasn't refused
pub record Accepts (old new : Writer) (r : List ℕ) (before : List Attribute) (a : Attribute) : Type 0 where
  pub holds : IsReply old new r (before ++ a ∷ [])
  pub none : refusal old.greatest before a ≡ None

pub accepts : (old mid new : Writer) (r : List ℕ) (before : List Attribute) (type : ℕ) (value : List ℕ) (made : Result (Unit {0}) StunWriteError) → type < 2 ^ 16 → IsOrdinary type
    → IsReply old mid r before → AddsMade made mid new (canonical type value) → IsOk made → Accepts old new r before (canonical type value)
accepts old mid new r before type value (Ok u) t ordinary holds adds ok =
    let none = sym (refusal_at old mid r before (canonical type value) holds) ∙ free_of (Ok u) _ ok adds.answer in
    record {
      holds = reply_more old mid new r before type value holds t adds.fits ordinary none adds.adds.ok adds.adds.spends;
      none = none;
    }
accepts old mid new r before type value (Err e) t ordinary holds adds ok = absurd cc

-- if it was refused, nothing more is written
pub refused : {T : Type 0} (old mid new : Writer) (r : List ℕ) (before : List Attribute) (a : Attribute) (attributes : List Attribute) (made : Result (Unit {0}) StunWriteError) (e : StunWriteError)
    → IsReply old mid r before → AddsMade made mid new a → made ≡ Err e → Reaches (fails T e) old new r before (a ∷ attributes)
refused old mid new r before a attributes (Ok u) e holds adds is = absurd cc
refused {T} old mid new r before a attributes (Err x) e holds adds is =
    subst (λ (y : StunWriteError). Reaches (fails T y) old new r before (a ∷ attributes)) (cc is)
    (refused_here x old new r before a attributes _ (refusal_at old mid r before a holds) adds.answer (reply_same old mid new r before _ holds adds.adds.err adds.adds.spends))

-- ---- The replies

-- each part is of an ordinary type
part_ordinary : (part : ReplyPart) → IsOrdinary (attribute_of part).type
part_ordinary Software = (λ e. absurd (omega (arith, e)), λ e. absurd (omega (arith, e)), λ e. absurd (omega (arith, e)))
part_ordinary (Error code reason) = (λ e. absurd (omega (arith, e)), λ e. absurd (omega (arith, e)), λ e. absurd (omega (arith, e)))
part_ordinary (Types types) = (λ e. absurd (omega (arith, e)), λ e. absurd (omega (arith, e)), λ e. absurd (omega (arith, e)))

part_type : (part : ReplyPart) → (attribute_of part).type < 2 ^ 16
part_type Software = omega arith
part_type (Error code reason) = omega arith
part_type (Types types) = omega arith

part_canonical : (part : ReplyPart) → attribute_of part ≡ canonical (attribute_of part).type (attribute_of part).value
part_canonical Software = refl
part_canonical (Error code reason) = refl
part_canonical (Types types) = refl

module _ (parts : List ReplyPart) where
  abbrev before : ℕ → List Attribute
  before i = map attribute_of (take i parts)

  abbrev behind : ℕ → List Attribute
  behind i = map attribute_of (drop i parts)

  -- the first i parts are written, and what becomes of the others becomes of all
  pub record RepliesSoFar (old now : Writer) (r : List ℕ) (i : ℕ) : Type 0 where
    pub holds : IsReply old now r (before i)
    pub carries : (result : Result (Unit {0}) StunWriteError) (new : Writer) → Reaches result old new r (before i) (behind i) → Replies result old new r (map attribute_of parts)

  pub replies_begun : (old begun : Writer) (r : List ℕ) → IsBegun old begun (response_type ErrorClass r) (id_field r) → RepliesSoFar old begun r 0
  replies_begun old begun r is = record { holds = begun_reply old begun r is; carries = λ result new. reaches_all result old new r (map attribute_of parts) }

  pub replies_more : (old mid new : Writer) (r : List ℕ) (i : ℕ) (d : ReplyPart) (made : Result (Unit {0}) StunWriteError) → i < length parts
      → RepliesSoFar old mid r i → AddsMade made mid new (attribute_of (get_or parts i d)) → IsOk made → RepliesSoFar old new r (i + 1)
  replies_more old mid new r i d made within so_far adds ok =
      let part = get_or parts i d in
      let one = attribute_of part in
      let on : Accepts old new r (before i) one = subst (Accepts old new r (before i)) (sym (part_canonical part))
      (accepts old mid new r (before i) one.type one.value made (part_type part) (part_ordinary part) so_far.holds (subst (AddsMade made mid new) (part_canonical part) adds) ok) in
      let front : before (i + 1) ≡ before i ++ one ∷ [] =
      ap (map attribute_of) (take_more parts i d within) ∙ map-append attribute_of (take i parts) (part ∷ []) in
      let left : behind i ≡ one ∷ behind (i + 1) = ap (map attribute_of) (drop_more parts i d within) in
      record {
        holds = subst (IsReply old new r) (sym front) on.holds;
        carries = λ result last reaches. so_far.carries result last
            (subst (Reaches result old last r (before i)) (sym left)
            (reaches_more result old last r (before i) one (behind (i + 1)) on.none (subst (λ (xs : List Attribute). Reaches result old last r xs (behind (i + 1))) front reaches)));
      }

  pub replies_refused : (old mid new : Writer) (r : List ℕ) (i : ℕ) (d : ReplyPart) (made : Result (Unit {0}) StunWriteError) (e : StunWriteError) → i < length parts
      → RepliesSoFar old mid r i → AddsMade made mid new (attribute_of (get_or parts i d)) → made ≡ Err e → (result : Result (Unit {0}) StunWriteError) → result ≡ Err e → Replies result old new r (map attribute_of parts)
  replies_refused old mid new r i d made e within so_far adds fails-with result same =
      let part = get_or parts i d in
      let left : behind i ≡ attribute_of part ∷ behind (i + 1) = ap (map attribute_of) (drop_more parts i d within) in
      so_far.carries result new
      (subst (λ (q : Result (Unit {0}) StunWriteError). Reaches q old new r (before i) (behind i)) (sym same)
      (subst (Reaches (fails (Unit {0}) e) old new r (before i)) (sym left)
      (refused old mid new r (before i) (attribute_of part) (behind (i + 1)) made e so_far.holds adds fails-with)))

  pub replies_all : (old new : Writer) (r : List ℕ) (i : ℕ) → length parts ≤ i → RepliesSoFar old new r i → Replies done old new r (map attribute_of parts)
  replies_all old new r i within so_far =
      so_far.carries done new
      (subst (λ (xs : List ReplyPart). Reaches done old new r (before i) (map attribute_of xs)) (sym (drop_all i parts within)) (reaches_end tt old new r (before i) so_far.holds))

-- the parts that say which types weren't understood
pub unknown_parts : (types : List AttributeType) → length types ≢ 0 → unknown_reply types ≡ own_software ∷ error_attribute 420 (codes "Unknown Attributes") ∷ canonical UNKNOWN_ATTRIBUTES (types_encoding types) ∷ []
unknown_parts [] some = absurd (some refl)
unknown_parts (type ∷ types) some = refl

pub no_unknown_parts : (types : List AttributeType) → length types ≡ 0 → unknown_reply types ≡ own_software ∷ error_attribute 420 (codes "Unknown Attributes") ∷ []
no_unknown_parts [] none = refl
no_unknown_parts (type ∷ types) none = absurd (omega (arith, none))
