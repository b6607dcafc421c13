use Rattle.std.proofs.Common.{◌≡◌, ◌∙◌, ◌-◌, ◌++◌, List, ℕ, None, Some, Ok, length, take, ap, sym, subst, arith}
use Rattle.stun_framing.specs.declared.gather.Gathered.{Gathered}
use Rattle.stun_framing.specs.declared.error.StreamError.{StreamError}
use Rattle.stun_framing.specs.Fields.{pending_of, offset_behind, stream_of, IsStream}
use Rattle.stun_framing.specs.Gathering.{HoldsFirst, Refuses}
use Rattle.stun_framing.specs.Streams.{Stream, answer, left}
use Rattle.stun_framing.proofs.StreamsLemmas.{IsPending, Takes, pending_is, gathered_is, left_is, answer_is, takes, refused_left, refused_answer, refused_is, ended_left}
use Rattle.stun_framing.proofs.message_stream.MessageStream.push.Goals as goal

pub gather-requires : goal.gather-requires
gather-requires c =
    let buffer : List ℕ = c.self.inside.buffer.now in
    let pending : IsPending c.self.inside.carries buffer c.pending_of-pending.result =
    subst (IsPending c.self.inside.carries buffer) (sym c.pending_of-pending.ensures) (pending_is c.self.inside.carries buffer c.self.inside.gathered c.self.inside.error c.self.invariant) in
    record { bound = pending.bound; gathered = pending.sound }

pub overflow_sub-result : goal.overflow_sub-result
overflow_sub-result c =
    let buffer : List ℕ = c.self.inside.buffer.now in
    let pending : IsPending c.self.inside.carries buffer c.pending_of-pending.result =
    subst (IsPending c.self.inside.carries buffer) (sym c.pending_of-pending.ensures) (pending_is c.self.inside.carries buffer c.self.inside.gathered c.self.inside.error c.self.invariant) in
    (takes c.self.inside.carries buffer c.gather.new.buffer c.args.piece.now c.pending_of-pending.result c.in-Ok.gathered pending c.in-Ok.ensures).grows

pub invariant_of-self : goal.invariant_of-self
invariant_of-self c =
    let b : List ℕ = take c.pending_of-pending.result.held c.self.inside.buffer.now ++ c.args.piece.now in
    subst (IsStream c.self.inside.carries c.gather.new.buffer c.in-Ok.gathered) (sym c.in_default.is)
    (gathered_is c.self.inside.carries b c.gather.new.buffer c.in-Ok.gathered (omega (arith, c.self.invariant.room, c.gather.auto.buffer)) c.in-Ok.ensures)

pub invariant_of-self-in-Err : goal.invariant_of-self-in-Err
invariant_of-self-in-Err c =
    let buffer : List ℕ = c.self.inside.buffer.now in
    let pending : IsPending c.self.inside.carries buffer c.pending_of-pending.result =
    subst (IsPending c.self.inside.carries buffer) (sym c.pending_of-pending.ensures) (pending_is c.self.inside.carries buffer c.self.inside.gathered c.self.inside.error c.self.invariant) in
    refused_is c.self.inside.carries buffer c.gather.new.buffer c.args.piece.now c.pending_of-pending.result c.in-Err.fault (record { offset = c.self.inside.offset; fault = c.in-Err.fault })
    c.gather.auto.buffer c.self.invariant.room pending c.in-Err.ensures

pub returns-in-Ok : goal.returns-in-Ok
returns-in-Ok c =
    let buffer : List ℕ = c.self.inside.buffer.now in
    let new : List ℕ = c.gather.new.buffer in
    let piece : List ℕ = c.args.piece.now in
    let gathered : Gathered = c.self.inside.gathered in
    let after : Gathered = c.in-Ok.gathered in
    let offset : ℕ = c.self.inside.offset in
    let same : length new ≡ length buffer = c.gather.auto.buffer in
    let here = pending_is c.self.inside.carries buffer gathered c.self.inside.error c.self.invariant in
    let is = c.pending_of-pending.ensures in
    let holds : HoldsFirst c.self.inside.carries (take (pending_of gathered).held buffer ++ piece) after new =
    subst (λ (k : Gathered). HoldsFirst c.self.inside.carries (take k.held buffer ++ piece) after new) is c.in-Ok.ensures in
    let at : stream_of c.self.inside.carries buffer gathered offset None ≡ c.args.self.now =
    ap (stream_of c.self.inside.carries buffer gathered offset) (sym c.in_default.is) ∙ c.self.view_is in
    let taken : Takes c.pending_of-pending.result.held after.held piece =
    subst (λ (k : Gathered). Takes k.held after.held piece) (sym is) (takes c.self.inside.carries buffer new piece (pending_of gathered) after here holds) in
    record {
      answer = ap (λ (k : Gathered). Ok (after.held - k.held)) is
          ∙ answer_is c.self.inside.carries buffer new piece gathered after offset same here.within holds
          ∙ ap (λ (s : Stream). answer s piece) at;
      left = ap (λ (o : ℕ). stream_of c.self.inside.carries new after o c.self.inside.error) c.offset_behind-self-inside.ensures
          ∙ ap (stream_of c.self.inside.carries new after (offset_behind offset after)) c.in_default.is
          ∙ left_is c.self.inside.carries buffer new piece gathered after offset same holds
          ∙ ap (λ (s : Stream). left s piece) at;
      bound = taken.bound;
      progress = taken.some;
    }

pub returns-in-Err : goal.returns-in-Err
returns-in-Err c =
    let buffer : List ℕ = c.self.inside.buffer.now in
    let new : List ℕ = c.gather.new.buffer in
    let piece : List ℕ = c.args.piece.now in
    let gathered : Gathered = c.self.inside.gathered in
    let offset : ℕ = c.self.inside.offset in
    let fault = c.in-Err.fault in
    let error : StreamError = record { offset = offset; fault = fault } in
    let here = pending_is c.self.inside.carries buffer gathered c.self.inside.error c.self.invariant in
    let is = c.pending_of-pending.ensures in
    let refuses : Refuses c.self.inside.carries (pending_of gathered).held piece fault buffer new =
    subst (λ (k : Gathered). Refuses c.self.inside.carries k.held piece fault buffer new) is c.in-Err.ensures in
    let at : stream_of c.self.inside.carries buffer gathered offset None ≡ c.args.self.now =
    ap (stream_of c.self.inside.carries buffer gathered offset) (sym c.in_default.is) ∙ c.self.view_is in
    record {
      answer = refused_answer c.self.inside.carries buffer new piece gathered offset fault refuses
          ∙ ap (λ (s : Stream). answer s piece) at;
      left = ap (λ (k : Gathered). stream_of c.self.inside.carries new k offset (Some error)) is
          ∙ refused_left c.self.inside.carries buffer new piece gathered offset fault c.gather.auto.buffer here refuses
          ∙ ap (λ (s : Stream). left s piece) at;
      bound = tt;
      progress = tt;
    }

pub returns-in-Some : goal.returns-in-Some
returns-in-Some c =
    let buffer : List ℕ = c.self.inside.buffer.now in
    let piece : List ℕ = c.args.piece.now in
    let gathered : Gathered = c.self.inside.gathered in
    let offset : ℕ = c.self.inside.offset in
    let error : StreamError = c.in-Some.error in
    let is : IsStream c.self.inside.carries buffer gathered (Some error) = subst (IsStream c.self.inside.carries buffer gathered) c.in-Some.is c.self.invariant in
    let at : stream_of c.self.inside.carries buffer gathered offset (Some error) ≡ c.args.self.now =
    ap (stream_of c.self.inside.carries buffer gathered offset) (sym c.in-Some.is) ∙ c.self.view_is in
    record {
      answer = ap (λ (s : Stream). answer s piece) at;
      left = sym at ∙ ended_left c.self.inside.carries buffer piece gathered offset error is ∙ ap (λ (s : Stream). left s piece) at;
      bound = tt;
      progress = tt;
    }
