use Rattle.std.proofs.Common.{◌≡◌, ◌<◌, ◌^◌, take}
use Rattle.stun_authentication.specs.Base64.{of_base64}
use Rattle.stun_authentication.proofs.base64.read_bits.Given as goal

abbrev pub invariant-loop-character : goal.invariant-loop-character
invariant-loop-character l = record {
  value : l.bits ≡ of_base64 (take l.character-index l.characters);
  bound : l.bits < 64 ^ l.character-index;
}
