-- The texts of the username of a check.
use Rattle.std.specs.Prelude.{ℕ, List}
use Rattle.ice_attrs.specs.declared.credentials.Ufrag.{Ufrag}
use Rattle.ice_attrs.specs.declared.credentials.CheckUsername.{CheckUsername}

abbrev pub ufrag_text : Ufrag → List ℕ
ufrag_text ufrag = ufrag.text.now

abbrev pub receiver_text : CheckUsername → List ℕ
receiver_text check = ufrag_text check.receiver

abbrev pub sender_text : CheckUsername → List ℕ
sender_text check = ufrag_text check.sender
