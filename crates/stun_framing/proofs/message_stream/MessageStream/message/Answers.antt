use Rattle.std.proofs.Common.{◌≡◌, ℕ, List, length, take, ap, subst, arith}
use Rattle.std.proofs.lemmas.List.{length-take}
use Rattle.stun_framing.specs.Framing.{Room, room_of, IsMessage}
use Rattle.stun_framing.specs.Streams.{Stream}
use Rattle.stun_framing.proofs.CutsLemmas.{gathered_message}
use Rattle.stun_framing.proofs.message_stream.MessageStream.message.Goals as goal

pub returns-clause-whole : goal.returns-clause-whole
returns-clause-whole c =
    let buffer : List ℕ = c.self.inside.buffer.now in
    let gathered = c.self.inside.gathered in
    let is = c.self.invariant in
    let m : List ℕ = take gathered.held buffer in
    let all : length m ≡ gathered.wanted = omega (arith, length-take gathered.held buffer, is.bound, is.sound.within, c.if-self.false) in
    subst (λ (room : Room). IsMessage room m) (ap (λ (s : Stream). s.room) c.self.view_is) (gathered_message (room_of c.self.inside.carries (length buffer)) m gathered.wanted is.sound all)
