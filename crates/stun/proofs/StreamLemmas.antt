-- A run over a stream, step by step.
use Rattle.std.proofs.Common.{◌≡◌, ℕ, ◌+◌, ◌<◌, eqb, Bool, false, List, [], ◌∷◌, ◌++◌, length, take, drop, Option, Some, None, Ok, Err, refl, sym, ap, subst, ◌∙◌, inl, inr, append_assoc, arith}
use Rattle.std.specs.Prelude.{option_map, if◌then◌else◌}
use Rattle.std.specs.List.{concat}
use Rattle.std.specs.Io.KnownBytes.{Keeps, Appends, Consumes}
use Rattle.std.specs.declared.net.socket_addr.SocketAddr.{SocketAddr}
use Rattle.std.proofs.lemmas.Bool.{cases_Bool, eqb-true}
use Rattle.std.proofs.lemmas.List.{length-append, append-nil, take-append-drop, nil_from_length}
use Rattle.std.proofs.lemmas.List.Concat.{flat_map-append}
use Rattle.std.proofs.Math.Seq.{take-append-add}
use Rattle.stun_framing.specs.declared.error.StreamFault.{StreamFault}
use Rattle.stun_framing.specs.declared.error.StreamError.{StreamError}
use Rattle.stun_framing.specs.Streams.{Stream, begun, answer, left, offset_of}
use Rattle.stun_framing.specs.Runs.{message_in, HasCome}
use Rattle.stun_framing.proofs.ComingLemmas.{none, comes, stops}
use Rattle.stun_programs.specs.InputOutput.{WritesPart}
use Rattle.stun_programs.proofs.KnownBytesLemmas.{Consumes-append, Appends-append, Appends-keep}
use Rattle.stun_programs.specs.declared.run_error.RunError.TheVariants.{Usage, TooLong, ReadFailed, WriteFailed, NoMemory}
use Rattle.stun.specs.declared.end.StunError.{StunError}
use Rattle.stun.specs.declared.end.StunError.TheVariants.{Cut, NoMessage, Usage as Misused, Run}
use Rattle.stun.specs.declared.end.RunEnd.TheVariants.{Complete}
use Rattle.stun.specs.StreamRun.{room, answers_to, answer_to, Serves, ReadsFirst, EndsStream}
use Rattle.stun.specs.StreamSteps.{end_of, Gives, Takes, Stops, Serving}

-- ---- Known bytes

pub consumes_behind : (a b c : Option (List ℕ)) (xs : List ℕ) → Keeps a b → Consumes b c xs → Consumes a c xs
consumes_behind None b c xs p q = tt
consumes_behind (Some x) None c xs p q = absurd p
consumes_behind (Some x) (Some y) None xs p q = absurd q
consumes_behind (Some x) (Some y) (Some z) xs p q = sym p ∙ q

consumes_none : (a : Option (List ℕ)) → Consumes a a []
consumes_none None = tt
consumes_none (Some x) = refl

appends_none : (a : Option (List ℕ)) → Appends a a []
appends_none None = tt
appends_none (Some x) = sym (append-nil x)

-- ---- Steps

-- before anything was read
pub begins : (source : SocketAddr) (left held : Option (List ℕ)) (behind : List ℕ) → behind ≡ [] → Serving source left left held held (begun room) behind
begins source left held behind e = record {
  bytes = [];
  messages = [];
  read = subst (Consumes left left) (sym e) (consumes_none left);
  come = none room;
  written = appends_none held;
}

-- bytes were read
pub reads : (source : SocketAddr) (left mid new held held' : Option (List ℕ)) (stream : Stream) (behind piece : List ℕ) (count : ℕ)
    → Serving source left mid held held' stream behind → behind ≡ [] → Gives mid new count piece → Serving source left new held held' stream (take count piece)
reads source left mid new held held' stream behind piece count serving nothing gives =
    let all : serving.bytes ++ behind ≡ serving.bytes = ap (λ (xs : List ℕ). serving.bytes ++ xs) nothing ∙ append-nil serving.bytes in
    record {
      bytes = serving.bytes;
      messages = serving.messages;
      read = Consumes-append left mid new serving.bytes (take count piece) (subst (Consumes left mid) all serving.read) gives.read;
      come = serving.come;
      written = serving.written;
    }

answers_append : (source : SocketAddr) (ms ns : List (List ℕ)) → answers_to source (ms ++ ns) ≡ answers_to source ms ++ answers_to source ns
answers_append source ms ns = flat_map-append (answer_to source) ms ns

rest_behind : (bytes behind : List ℕ) (taken : ℕ) → bytes ++ behind ≡ (bytes ++ take taken behind) ++ drop taken behind
rest_behind bytes behind taken = ap (λ (xs : List ℕ). bytes ++ xs) (sym (take-append-drop taken behind)) ∙ sym (append_assoc bytes (take taken behind) (drop taken behind))

-- bytes were taken
pub taken_on : (source : SocketAddr) (left left' held mid new : Option (List ℕ)) (stream next : Stream) (behind : List ℕ) (taken : ℕ)
    → Serving source left left' held mid stream behind → Takes source stream next behind taken mid new → Serving source left left' held new next (drop taken behind)
taken_on source left_ left' held mid new stream next behind taken serving takes =
    let now = message_in next.message in
    let come : HasCome room (serving.bytes ++ take taken behind) (serving.messages ++ message_in (left stream behind).message) (left stream behind) =
    comes room serving.bytes serving.messages stream behind taken serving.come takes.answer_is in
    record {
      bytes = serving.bytes ++ take taken behind;
      messages = serving.messages ++ now;
      read = subst (Consumes left_ left') (rest_behind serving.bytes behind taken) serving.read;
      come = subst (λ (s : Stream). HasCome room (serving.bytes ++ take taken behind) (serving.messages ++ message_in s.message) s) (sym takes.left_is) come;
      written = subst (Appends held new) (sym (answers_append source serving.messages now))
          (Appends-append held mid new (answers_to source serving.messages) (answers_to source now) serving.written takes.written);
    }

-- ---- Ends

-- what was read begins with the messages so far
reads_first : (source : SocketAddr) (left left' held held' : Option (List ℕ)) (stream : Stream) (behind : List ℕ)
    → (serving : Serving source left left' held held' stream behind) → ReadsFirst left left' serving.messages
reads_first source left left' held held' stream behind serving = record {
  input = serving.bytes ++ behind;
  rest = stream.pending ++ behind;
  read = serving.read;
  joined = ap (λ (xs : List ℕ). xs ++ behind) serving.come.cut.joined ∙ append_assoc (concat serving.messages) stream.pending behind;
  each = serving.come.cut.each;
}

-- the input ends
pub ended : (source : SocketAddr) (left mid new held held' : Option (List ℕ)) (stream : Stream) (behind piece : List ℕ)
    → Serving source left mid held held' stream behind → behind ≡ [] → Gives mid new 0 piece → EndsStream source (end_of stream) left new held held'
ended source left mid new held held' stream behind piece serving nothing gives =
    let come = serving.come in
    let all : (serving.bytes ++ behind) ++ [] ≡ serving.bytes =
    append-nil (serving.bytes ++ behind) ∙ ap (λ (xs : List ℕ). serving.bytes ++ xs) nothing ∙ append-nil serving.bytes in
    let read : Consumes left new serving.bytes = subst (Consumes left new) all (Consumes-append left mid new (serving.bytes ++ behind) [] serving.read gives.read) in
    let reported : Option StreamFault → Option StreamError = option_map (λ fault. record { offset = offset_of (length (concat serving.messages)); fault = fault }) in
    let serves : Serves source left new held held' serving.messages stream.pending None = record {
      input = serving.bytes;
      read = read;
      cut = come.cut;
      error_is = sym (ap reported come.sound);
      written = serving.written;
    } in
    elim (cases_Bool (eqb (length stream.pending) 0)) [
      | inl none ↦
          let empty : stream.pending ≡ [] = nil_from_length stream.pending (eqb-true (length stream.pending) 0 none) in
          subst (λ (b : Bool). EndsStream source (if b then Ok Complete else Err (Cut stream.offset)) left new held held') (sym none)
          (serving.messages, subst (λ (xs : List ℕ). Serves source left new held held' serving.messages xs None) empty serves, gives.ended refl)
      | inr some ↦
          subst (λ (b : Bool). EndsStream source (if b then Ok Complete else Err (Cut stream.offset)) left new held held') (sym some) (record {
            messages = serving.messages;
            rest = stream.pending;
            serves = serves;
            some = some_there stream.pending some;
            offset_is = come.offset_is;
            ended = gives.ended refl;
          })
    ]
  where
    some_there : (xs : List ℕ) → eqb (length xs) 0 ≡ false → 0 < length xs
    some_there [] e = absurd cc
    some_there (x ∷ xs) e = omega arith

-- a write fails within the answer to the last message
part_of : (held mid new : Option (List ℕ)) (xs ys : List ℕ) → Appends held mid xs → WritesPart mid new ys → WritesPart held new (xs ++ ys)
part_of held mid new xs ys before part = record {
  count = length xs + part.count;
  part = omega (arith, part.part, length-append xs ys);
  written = subst (Appends held new) (sym (take-append-add xs ys part.count)) (Appends-append held mid new xs (take part.count ys) before part.written);
}

-- what was read begins with the messages up to the last one
reads_last : (source : SocketAddr) (left_ left' held mid : Option (List ℕ)) (stream : Stream) (behind : List ℕ) (taken : ℕ)
    → (come : Serving source left_ left' held mid stream behind) → answer stream behind ≡ Ok taken
    → ReadsFirst left_ left' (come.messages ++ message_in (left stream behind).message)
reads_last source left_ left' held mid stream behind taken come reported =
    let here = comes room come.bytes come.messages stream behind taken come.come reported in
    let new = left stream behind in
    let messages = come.messages ++ message_in new.message in
    record {
      input = come.bytes ++ behind;
      rest = new.pending ++ drop taken behind;
      read = come.read;
      joined = rest_behind come.bytes behind taken
          ∙ ap (λ (xs : List ℕ). xs ++ drop taken behind) here.cut.joined
          ∙ append_assoc (concat messages) new.pending (drop taken behind);
      each = here.cut.each;
    }

pub stopped : (source : SocketAddr) (left_ left' held mid new : Option (List ℕ)) (stream : Stream) (behind : List ℕ) (error : StunError)
    → Serving source left_ left' held mid stream behind → Stops source stream behind error mid new → EndsStream source (Err error) left_ left' held new
stopped source left_ left' held mid new stream behind (Cut offset) serving vain = absurd vain
stopped source left_ left' held mid new stream behind (Misused line) serving vain = absurd vain
stopped source left_ left' held mid new stream behind (Run Usage) serving vain = absurd vain.failed
stopped source left_ left' held mid new stream behind (Run TooLong) serving vain = absurd vain.failed
stopped source left_ left' held mid new stream behind (Run ReadFailed) serving vain = absurd vain.failed
stopped source left_ left' held mid new stream behind (NoMessage error) serving (reported, keeps) =
    let says = stops room serving.bytes serving.messages stream behind error serving.come reported in (
      serving.messages,
      says.rest,
      record {
        input = serving.bytes ++ behind;
        read = serving.read;
        cut = says.cut;
        error_is = says.error_is;
        written = Appends-keep held mid new (answers_to source serving.messages) serving.written keeps;
      },
    )
stopped source left_ left' held mid new stream behind (Run NoMemory) serving vain =
    (serving.messages, reads_first source left_ left' held mid stream behind serving, Appends-keep held mid new (answers_to source serving.messages) serving.written vain.failed)
stopped source left_ left' held mid new stream behind (Run WriteFailed) serving vain =
    let now = message_in (left stream behind).message in (
      serving.messages ++ now,
      reads_last source left_ left' held mid stream behind vain.taken serving vain.answer_is,
      subst (WritesPart held new) (sym (answers_append source serving.messages now))
          (part_of held mid new (answers_to source serving.messages) (answers_to source now) serving.written vain.failed),
    )
