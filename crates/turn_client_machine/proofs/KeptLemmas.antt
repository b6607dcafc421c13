-- What is served stays.
use Rattle.std.proofs.Common.{◌≡◌, ℕ, true, false, List, [], ◌∷◌, ◌++◌, Option, None, Some, refl}
use Rattle.std.specs.List.{AllByRecursion}
use Rattle.std.proofs.lemmas.Bool.{true_from_ne_false}
use Rattle.turn_client_machine.specs.Clients.{Endpoint, Setup, Pending, is_allocated}
use Rattle.turn_client_machine.specs.Events.{Event}
use Rattle.turn_client_machine.specs.Steps.{at, step}
use Rattle.turn_client_machine.specs.Runs.{Timed, Happening, run, history}
use Rattle.turn_client_machine.specs.Lasting.{IsReason, IsOn, IsServed, IsServedFor}
use Rattle.turn_client_machine.proofs.WorkingLemmas.{deleting, reasons}
use Rattle.turn_client_machine.proofs.Backed.{WasSent}
use Rattle.turn_client_machine.proofs.BackedLemmas.{run_kept}
use Rattle.turn_client_machine.proofs.AskingLemmas.{EachAsked, IsFit, run_fit}
use Rattle.turn_client_machine.proofs.StayingLemmas.{stays_on}

pending_kept : (hs : List Happening) (begin : ℕ) (o : Option Pending) → WasSent hs o → EachAsked (IsFit begin) hs → deleting o ≡ false
pending_kept hs begin None sent each = refl
pending_kept hs begin (Some q) sent each = (each q.request sent.0).lasts

-- a client with an allocation has sent no request that deletes it
never_deletes : (setup : Setup) (events : List Timed) → is_allocated (run setup events).phase ≡ true → deleting (run setup events).task.pending ≡ false
never_deletes setup events there =
    let fit = run_fit setup events there in
    let kept = run_kept setup events in
    pending_kept (history setup events) fit.begin (run setup events).task.pending kept.main.pending fit.each

pub ends_by : (setup : Setup) (earlier : List Timed) (now fresh : ℕ) (event : Event) → is_allocated (run setup earlier).phase ≡ true → is_allocated (step setup (run setup earlier) now fresh event).state.phase ≡ false → IsReason setup (at now (run setup earlier)) event
ends_by setup earlier now fresh event there gone = reasons setup (run setup earlier) now fresh event (never_deletes setup earlier there) there gone

pub stays_allocated : (setup : Setup) (since earlier : List Timed) → is_allocated (run setup earlier).phase ≡ true → IsServed setup since earlier → is_allocated (run setup (since ++ earlier)).phase ≡ true
stays_allocated setup [] earlier there served = there
stays_allocated setup (timed ∷ since) earlier there served =
    let before = stays_allocated setup since earlier there served.1 in
    true_from_ne_false (is_allocated (run setup (timed ∷ since ++ earlier)).phase)
    (λ gone. served.0 (ends_by setup (since ++ earlier) timed.now timed.fresh timed.event before gone))

pub stays_for : (setup : Setup) (since earlier : List Timed) (address : Endpoint) → AllByRecursion (IsOn address) (run setup earlier).peers → IsServedFor setup address since earlier → AllByRecursion (IsOn address) (run setup (since ++ earlier)).peers
stays_for setup [] earlier address on served = on
stays_for setup (timed ∷ since) earlier address on served =
    stays_on setup (run setup (since ++ earlier)) timed.now timed.fresh timed.event address served.0 served.1.0 (stays_for setup since earlier address on served.1.1)
