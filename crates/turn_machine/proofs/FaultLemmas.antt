-- A request is refused with a code exactly if that is the code of its first row that applies.
use Rattle.std.proofs.Common.{◌≡◌, ℕ, ◌+◌, true, false, Option, None, Some, ap, ◌∙◌}
use Rattle.std.specs.Option.{option_map_or}
use Rattle.std.specs.Prelude.{◌==◌, ◌&&◌}
use Rattle.std.proofs.lemmas.Bool.{cond_both, cond-false, false≢true}
use Rattle.stun_endpoints.specs.declared.endpoints.FiveTuple.{FiveTuple}
use Rattle.turn_machine.specs.Relays.{seconds, Setup, Rules, State, is_owned}
use Rattle.turn_machine.specs.Events.{Request, allocate, unfit_allocate, refresh, permit, bind, unfit, refreshed, refused, answers}
use Rattle.turn_machine.specs.Times.{refreshed_for}
use Rattle.turn_machine.specs.Rows.{fault}
use Rattle.turn_machine.specs.Steps.{Step, changed, closing, is_wanted, lasting, keeping, fulfils, is_again, answers_again, refuses, serves_new, serves}
use Rattle.turn_machine.proofs.CasesLemmas.{serve_cases}

abbrev IsRefused : FiveTuple → (code : ℕ) → Step → Type 0
IsRefused tuple code s = s.output ≡ answers tuple (refused code)

fulfilled : (setup : Setup) (tuple : FiveTuple) (user code : ℕ) (request : Request) (state : State) → IsRefused tuple code (fulfils setup tuple user request state) → ⊥
fulfilled setup tuple user code (allocate id lifetime wants) state e = cc
fulfilled setup tuple user code (unfit_allocate c) state e = cc
fulfilled setup tuple user code (refresh family lifetime) state e =
    let granted = refreshed_for lifetime setup.greatest_lifetime in
    cond_both (granted == 0)
    (closing (λ a. is_owned tuple user a && is_wanted family a) (answers tuple (refreshed granted)) state)
    (keeping (changed tuple user (lasting family (state.clock + seconds granted)) state) (answers tuple (refreshed granted)))
    (λ (s : Step). IsRefused tuple code s → ⊥) (λ _ is. cc) (λ _ is. cc) e
fulfilled setup tuple user code (permit peers) state e = cc
fulfilled setup tuple user code (bind number peer) state e = cc
fulfilled setup tuple user code (unfit c) state e = cc

answered : (setup : Setup) (tuple : FiveTuple) (user code : ℕ) (request : Request) (state : State) → is_again tuple user request state ≡ true → IsRefused tuple code (keeping state (answers_again setup tuple request state)) → ⊥
answered setup tuple user code (allocate id lifetime wants) state again e = cc
answered setup tuple user code (unfit_allocate c) state again e = false≢true again
answered setup tuple user code (refresh family lifetime) state again e = false≢true again
answered setup tuple user code (permit peers) state again e = false≢true again
answered setup tuple user code (bind number peer) state again e = false≢true again
answered setup tuple user code (unfit c) state again e = false≢true again

pub record HasFault (setup : Setup) (rules : Rules) (tuple : FiveTuple) (user : ℕ) (request : Request) (state : State) (code : ℕ) : Type 0 where
  pub new : is_again tuple user request state ≡ false
  pub fault_is : fault setup rules state tuple user request ≡ Some code

pub refused_for : (setup : Setup) (rules : Rules) (tuple : FiveTuple) (user : ℕ) (request : Request) (state : State) (code : ℕ) → IsRefused tuple code (serves setup rules tuple user request state) → HasFault setup rules tuple user request state code
refused_for setup rules tuple user request state code =
    serve_cases setup rules tuple user request state (λ s. IsRefused tuple code s → HasFault setup rules tuple user request state code)
    (λ c new is e. let same : c ≡ code = cc in record { new = new; fault_is = is ∙ ap (λ n. Some n) same })
    (λ again e. absurd (answered setup tuple user code request state again e))
    (λ _ _ e. absurd (fulfilled setup tuple user code request state e))

pub for_refused : (setup : Setup) (rules : Rules) (tuple : FiveTuple) (user : ℕ) (request : Request) (state : State) (code : ℕ) → HasFault setup rules tuple user request state code → IsRefused tuple code (serves setup rules tuple user request state)
for_refused setup rules tuple user request state code has =
    ap (λ (s : Step). s.output) (cond-false (is_again tuple user request state) (keeping state (answers_again setup tuple request state)) (serves_new setup rules tuple user request state) has.new)
    ∙ ap (λ (o : Option ℕ). (option_map_or (refuses tuple state) o (fulfils setup tuple user request state)).output) has.fault_is

-- a request without a fault is fulfilled
pub for_granted : (setup : Setup) (rules : Rules) (tuple : FiveTuple) (user : ℕ) (request : Request) (state : State) → is_again tuple user request state ≡ false → fault setup rules state tuple user request ≡ None
    → serves setup rules tuple user request state ≡ fulfils setup tuple user request state
for_granted setup rules tuple user request state new fit =
    cond-false (is_again tuple user request state) (keeping state (answers_again setup tuple request state)) (serves_new setup rules tuple user request state) new
    ∙ ap (λ (o : Option ℕ). option_map_or (refuses tuple state) o (fulfils setup tuple user request state)) fit
