-- What the prover opens to compute the definitions of the usages on numbers that are written out.
use Rattle.standard_vectors.proofs.Computing.{reading, digests, validating}
use Rattle.stun_authentication.specs.Base64.{six_bits, in_base64}
use Rattle.stun_authentication.specs.Cookies.{security_features}
use Rattle.stun_authentication.specs.Lists.{first_among}
use Rattle.stun_framing.specs.Framing.{stream_fault}

unfoldable pub computing : Unit {0}
unfolding reading digests six_bits in_base64 security_features stream_fault
computing = tt

-- what a server decides
unfoldable pub authenticating : Unit {0}
unfolding computing validating first_among
authenticating = tt
