-- Datagrams that aren't authentic.
use Rattle.std.specs.Prelude.{◌≡◌, Bool, true, false, List, ◌∷◌, ◌++◌}
use Rattle.ice_machine.specs.Agents.{Setup}
use Rattle.ice_machine.specs.Events.{Event, gathers, learns, meets, ends, checks, responds, strays, arrives, sends, polls}
use Rattle.ice_machine.specs.Runs.{Begin, Timed, Happening, run, happening, history}

-- a datagram that anybody can send
abbrev pub is_stranger : Event → Bool
is_stranger (gathers b) = false
is_stranger (learns r) = false
is_stranger meets = false
is_stranger ends = false
is_stranger (checks c) = false
is_stranger (responds base from id answer) = false
is_stranger (strays base from id size code) = true
is_stranger (arrives base from bytes) = true
is_stranger (sends component bytes) = false
is_stranger polls = false

-- all that happens later is as if it hadn't come
pub record IsForgotten (setup : Setup) (b : Begin) (later : List Timed) (next stranger : Timed)
    (earlier : List Timed) : Type 0 where
  pub since : List Happening
  pub with_it : history setup b (later ++ next ∷ stranger ∷ earlier)
      ≡ since ++ happening setup (run setup b earlier) stranger ∷ history setup b earlier
  pub without_it : history setup b (later ++ next ∷ earlier) ≡ since ++ history setup b earlier
  pub kept : run setup b (later ++ next ∷ stranger ∷ earlier)
      ≡ run setup b (later ++ next ∷ earlier)
