-- What values are read as.
use Rattle.std.specs.Prelude.{ℕ, List}
use Rattle.std.specs.Net.Text.{socket_text}
use Rattle.stun_grammar.specs.Names.{plain_text, quoted_text, hex_text}
use Rattle.stun_values.specs.declared.algorithm_list.AlgorithmList.{AlgorithmList}
use Rattle.stun_values.specs.declared.typed.TypedValue.{TypedValue}
use Rattle.stun_values.specs.declared.typed.TypedValue.TheVariants as Read
use Rattle.stun_values.specs.Addresses.{xored_text}
use Rattle.stun_values.specs.Algorithms.{algorithms_in, algorithm_text, algorithms_text}
use Rattle.stun_values.specs.ErrorValues.{error_text}
use Rattle.stun_values.specs.TypeLists.{types_in, types_text}

-- the bytes of a list of algorithms
abbrev pub list_bytes : AlgorithmList → List ℕ
list_bytes list = list.value.now

-- how it is printed in an attribute of a type
abbrev pub typed_text : ℕ → TypedValue → List ℕ
typed_text type (Read.Plain text) = plain_text type text.now
typed_text type (Read.Quoted text) = quoted_text type text.now
typed_text type (Read.ErrorCode code reason) = error_text code reason.now
typed_text type (Read.Bytes bytes) = hex_text type bytes.now
typed_text type (Read.Checksum checksum) = hex_text type checksum
typed_text type (Read.Algorithm algorithm) = algorithm_text algorithm
typed_text type (Read.Algorithms list) = algorithms_text (algorithms_in (list_bytes list))
typed_text type (Read.Types list) = types_text (types_in list.now)
typed_text type (Read.Address addr) = plain_text type (socket_text addr)
typed_text type (Read.XorAddress addr) = plain_text type (xored_text addr)
