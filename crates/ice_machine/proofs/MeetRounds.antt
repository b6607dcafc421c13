-- The rounds of a meeting.
use Rattle.std.proofs.Common.{◌≡◌, ℕ, suc, ◌+◌, ◌<◌, ◌≤◌, inl, inr, ◌⊎◌, true, false, Option, refl, sym, ap, subst, ◌∙◌, arith}
use Rattle.std.proofs.lemmas.Bool.{cases_Bool}
use Rattle.stun_endpoints.specs.declared.endpoints.Endpoint.{Endpoint}
use Rattle.ice_machine.specs.Roles.{Role, Controlling, Controlled, other_role, is_controlling}
use Rattle.ice_machine.specs.Agents.{seconds, Pair, Setup, State, pace, is_at}
use Rattle.ice_machine.specs.Events.{Check}
use Rattle.ice_machine.specs.Steps.{settled, heard}
use Rattle.ice_machine.specs.Networks.{Place, Agents, turn, swapped, round}
use Rattle.ice_machine.specs.Meetings.{End, Meeting, disturbed, noisy, IsFit, IsMeeting, IsUntold, IsAgent, IsPassive, IsTrying}
use Rattle.ice_machine.proofs.PlacesLemmas.{neither}
use Rattle.ice_machine.proofs.MeetPairs.{IsTriggered, triggered_settled}
use Rattle.ice_machine.proofs.MeetSteps.{weaker_agent, disturbed_agent, disturbed_role, Lasts}
use Rattle.ice_machine.proofs.MeetUnaware.{passive_weaker, passive_disturbed}
use Rattle.ice_machine.proofs.MeetStages.{IsValidIn, IsMetIn, Leads, valid_lasts, met_lasts, valid_heard, triggered_turn, valid_turn, met_turn}
use Rattle.ice_machine.proofs.MeetTries.{Opposite, opposite_from, HasRefused, Declined, Tried, refused_turn, untold_turn, passive_turn, IsHoping, trying_disturbed, trying_later, less_when, trying_turn}

-- ---- Half a round

-- the fixed part of a turn: an agent that asks, and one that is asked
pub record IsHalf (own_setup peer_setup : Setup) (e d : End) (net : ℕ → Endpoint → Option Place) (now next : ℕ) : Type 0 where
  pub fit : IsFit own_setup
  pub way : Leads e d net
  pub soon : next ≤ now + seconds 20

half_told : (own_setup peer_setup : Setup) (e d : End) (net back : ℕ → Endpoint → Option Place) (S T : Role → Pair → Type 0) (now until next fresh anew : ℕ) (both : Agents) → IsHalf own_setup peer_setup e d net now next
    → ((r : Role) (z : Pair) → S r z → is_at d.base d.to z ≡ true) → ((r : Role) (z : Pair) → S r z → S r (settled peer_setup now z)) → ((r : Role) (c : Check) (z : Pair) → c.nominates ≡ false → S r z → T r (heard r c z))
    → Opposite e d net back (λ _. IsTriggered e) S now now until both → Opposite e d net back (IsValidIn e now next) T now (now + pace own_setup) until (turn own_setup peer_setup net now fresh anew both.one both.other)
half_told own_setup peer_setup e d net back S T now until next fresh anew both k there lasts on o =
    opposite_from e d net back (IsValidIn e now next) T now (now + pace own_setup) until both.one.role both.other.role _ o.roles
    (triggered_turn own_setup peer_setup e d net back (S both.other.role) (T both.other.role) now until next fresh anew both.one both.other k.fit k.way k.soon o.own o.peer o.roles
    (there both.other.role) (lasts both.other.role) (on both.other.role))

half_untold : (own_setup peer_setup : Setup) (e d : End) (net back : ℕ → Endpoint → Option Place) (now until next fresh anew : ℕ) (both : Agents) → IsHalf own_setup peer_setup e d net now next
    → HasRefused e d net back peer_setup now now until both → Opposite e d net back (IsValidIn e now next) (λ _. IsTriggered d) now (now + pace own_setup) until (turn own_setup peer_setup net now fresh anew both.one both.other)
half_untold own_setup peer_setup e d net back now until next fresh anew both k o = refused_turn own_setup peer_setup e d net back now until next fresh anew both.one both.other k.fit k.way k.soon o.own o.peer o.roles

half_valid : (own_setup peer_setup : Setup) (e d : End) (net back : ℕ → Endpoint → Option Place) (since d_until now until next fresh anew : ℕ) (both : Agents) → IsHalf own_setup peer_setup e d net now next → now ≤ d_until
    → Opposite e d net back (λ _. IsTriggered e) (IsValidIn d since d_until) now now until both → Opposite e d net back (IsValidIn e now next) (IsValidIn d since d_until) now (now + pace own_setup) until (turn own_setup peer_setup net now fresh anew both.one both.other)
half_valid own_setup peer_setup e d net back since d_until now until next fresh anew both k le o = half_told own_setup peer_setup e d net back (IsValidIn d since d_until) (IsValidIn d since d_until) now until next fresh anew both k
    (λ r z v. v.0.there) (λ r z v. valid_lasts d since d_until r peer_setup now z le v) (λ r c z plain v. valid_heard d since d_until r c z v) o

half_trying : (own_setup peer_setup : Setup) (e d : End) (net back : ℕ → Endpoint → Option Place) (now until next fresh anew : ℕ) (both : Agents) → IsHalf own_setup peer_setup e d net now next
    → Declined e d net back own_setup now now until both
    → Opposite e d net back (IsValidIn e now next) (λ _. IsTriggered d) now (now + pace own_setup) until (turn own_setup peer_setup net now fresh anew both.one both.other)
    ⊎ Declined e d net back own_setup now (now + pace own_setup) until (turn own_setup peer_setup net now fresh anew both.one both.other)
half_trying own_setup peer_setup e d net back now until next fresh anew both k o = untold_turn own_setup peer_setup e d net back now until next fresh anew both.one both.other k.fit k.way k.soon o.own o.peer o.roles

-- both valid: still so, in the roles they had, and the patience isn't over; or they have met
pub record StillValid (own_setup : Setup) (e d : End) (net back : ℕ → Endpoint → Option Place) (since d_since next d_until now gate until : ℕ) (before both : Agents) : Type 0 where
  pub valid : Opposite e d net back (IsValidIn e since next) (IsValidIn d d_since d_until) now gate until both
  pub role : both.other.role ≡ before.other.role
  pub patient : is_controlling before.one.role ≡ true → now < since + own_setup.patience

half_patient : (own_setup peer_setup : Setup) (e d : End) (net back : ℕ → Endpoint → Option Place) (since d_since own_until d_until now until next fresh anew : ℕ) (both : Agents) → IsHalf own_setup peer_setup e d net now next → now ≤ own_until → now ≤ d_until
    → Opposite e d net back (IsValidIn e since own_until) (IsValidIn d d_since d_until) now now until both
    → StillValid own_setup e d net back since d_since next d_until now (now + pace own_setup) until both (turn own_setup peer_setup net now fresh anew both.one both.other)
    ⊎ Opposite e d net back (IsMetIn e since next) (IsMetIn d d_since d_until) now (now + pace own_setup) until (turn own_setup peer_setup net now fresh anew both.one both.other)
half_patient own_setup peer_setup e d net back since d_since own_until d_until now until next fresh anew both k one two o =
    let after : Agents = turn own_setup peer_setup net now fresh anew both.one both.other in
    elim (valid_turn own_setup peer_setup e d net back since d_since next own_until d_until now until fresh anew both.one both.other k.fit k.way k.soon one two o.own o.peer o.roles)
    as (λ w. StillValid own_setup e d net back since d_since next d_until now (now + pace own_setup) until both after ⊎ Opposite e d net back (IsMetIn e since next) (IsMetIn d d_since d_until) now (now + pace own_setup) until after) [
      | inl still ↦ inl (record {
        valid = opposite_from e d net back (IsValidIn e since next) (IsValidIn d d_since d_until) now (now + pace own_setup) until both.one.role both.other.role after o.roles still.0;
        role = still.0.peer_role;
        patient = still.1;
      })
      | inr met ↦ inr (opposite_from e d net back (IsMetIn e since next) (IsMetIn d d_since d_until) now (now + pace own_setup) until both.one.role both.other.role after o.roles met)
    ]

half_met : (own_setup peer_setup : Setup) (e d : End) (net back : ℕ → Endpoint → Option Place) (since d_since own_until d_until now until next fresh anew : ℕ) (both : Agents) → IsHalf own_setup peer_setup e d net now next → now ≤ own_until → now ≤ d_until
    → Opposite e d net back (IsMetIn e since own_until) (IsMetIn d d_since d_until) now now until both
    → Opposite e d net back (IsMetIn e since next) (IsMetIn d d_since d_until) now (now + pace own_setup) until (turn own_setup peer_setup net now fresh anew both.one both.other)
half_met own_setup peer_setup e d net back since d_since own_until d_until now until next fresh anew both k one two o =
    opposite_from e d net back (IsMetIn e since next) (IsMetIn d d_since d_until) now (now + pace own_setup) until both.one.role both.other.role _ o.roles
    (met_turn own_setup peer_setup e d net back since d_since next own_until d_until now until fresh anew both.one both.other k.fit k.way k.soon one two o.own o.peer o.roles)

-- ---- The other half

twice_other : (r : Role) → other_role (other_role r) ≡ r
twice_other Controlling = refl
twice_other Controlled = refl

opposite_swapped : (e d : End) (net back : ℕ → Endpoint → Option Place) (S T : Role → Pair → Type 0) (now gate until : ℕ) (both : Agents) → Opposite e d net back S T now gate until both → Opposite d e back net T S now until gate (swapped both)
opposite_swapped e d net back S T now gate until both o = record { own = o.peer; peer = o.own; roles = sym (ap other_role o.roles ∙ twice_other both.other.role) }

opposite_weaker : (e d : End) (net back : ℕ → Endpoint → Option Place) (S T U V : Role → Pair → Type 0) (now gate until now_2 gate_2 until_2 : ℕ) (both : Agents) → ((r : Role) (z : Pair) → S r z → U r z) → ((r : Role) (z : Pair) → T r z → V r z)
    → now ≤ now_2 → gate ≤ gate_2 → until ≤ until_2 → Opposite e d net back S T now gate until both → Opposite e d net back U V now_2 gate_2 until_2 both
opposite_weaker e d net back S T U V now gate until now_2 gate_2 until_2 both on off one two three o = record {
  own = weaker_agent e net (S both.one.role) (U both.one.role) now now_2 gate gate_2 both.one (on both.one.role) one two o.own;
  peer = weaker_agent d back (T both.other.role) (V both.other.role) now now_2 until until_2 both.other (off both.other.role) one three o.peer;
  roles = o.roles;
}

-- ---- Between two rounds

abbrev pub Between : (m : Meeting) → (S T : Role → Pair → Type 0) → (n : ℕ) → Agents → Type 0
Between m S T n both = Opposite m.one_end m.other_end m.net.there m.net.back S T (m.moment n) (m.moment n) (m.moment n) both

-- a round in which nothing is lost
abbrev pub full_round : Meeting → (n : ℕ) → Agents → Agents
full_round m n both = round m.one_setup m.other_setup m.net (m.moment n) (m.fresh n) (noisy m n both)

noise_kept : (m : Meeting) (S T : Role → Pair → Type 0) (n : ℕ) (both : Agents) → IsMeeting m → ((r : Role) → Lasts m.one_setup (m.moment n) (S r)) → ((r : Role) → Lasts m.other_setup (m.moment n) (T r)) → Between m S T n both → Between m S T n (noisy m n both)
noise_kept m S T n both k on off o =
    let one_role = disturbed_role m.one_setup (m.moment n) both.one (m.one_noise n) (k.one_noise n) in
    let other_role_is = disturbed_role m.other_setup (m.moment n) both.other (m.other_noise n) (k.other_noise n) in
    record {
      own = subst (λ (r : Role). IsAgent m.one_end m.net.there (S r) (m.moment n) (m.moment n) (disturbed m.one_setup both.one (m.one_noise n))) (sym one_role)
          (disturbed_agent m.one_end m.net.there (S both.one.role) m.one_setup (m.moment n) (m.moment n) both.one (m.one_noise n) (on both.one.role) (k.one_noise n) o.own);
      peer = subst (λ (r : Role). IsAgent m.other_end m.net.back (T r) (m.moment n) (m.moment n) (disturbed m.other_setup both.other (m.other_noise n))) (sym other_role_is)
          (disturbed_agent m.other_end m.net.back (T both.other.role) m.other_setup (m.moment n) (m.moment n) both.other (m.other_noise n) (off both.other.role) (k.other_noise n) o.peer);
      roles = one_role ∙ o.roles ∙ ap other_role (sym other_role_is);
    }

one_half : (m : Meeting) (n : ℕ) → IsMeeting m → IsHalf m.one_setup m.other_setup m.one_end m.other_end m.net.there (m.moment n) (m.moment (suc n))
one_half m n k = record { fit = k.one_fit; way = k.there; soon = k.steady n }

other_half : (m : Meeting) (n : ℕ) → IsMeeting m → IsHalf m.other_setup m.one_setup m.other_end m.one_end m.net.back (m.moment n) (m.moment (suc n))
other_half m n k = record { fit = k.other_fit; way = k.back; soon = k.steady n }

abbrev first_half : Meeting → ℕ → Agents → Agents
first_half m n both = let start = noisy m n both in turn m.one_setup m.other_setup m.net.there (m.moment n) (m.fresh n 0) (m.fresh n 1) start.one start.other

abbrev second_half : Meeting → ℕ → Agents → Agents
second_half m n both = let first = first_half m n both in turn m.other_setup m.one_setup m.net.back (m.moment n) (m.fresh n 2) (m.fresh n 3) first.other first.one

-- at the next round
next_between : (m : Meeting) (S T U V : Role → Pair → Type 0) (n : ℕ) (both : Agents) → IsMeeting m → ((r : Role) (z : Pair) → S r z → U r z) → ((r : Role) (z : Pair) → T r z → V r z)
    → Opposite m.other_end m.one_end m.net.back m.net.there T S (m.moment n) (m.moment n + pace m.other_setup) (m.moment n + pace m.one_setup) (second_half m n both) → Between m U V (suc n) (full_round m n both)
next_between m S T U V n both k on off o =
    let one = k.one_paced n in
    let other = k.other_paced n in
    opposite_weaker m.one_end m.other_end m.net.there m.net.back S T U V (m.moment n) (m.moment n + pace m.one_setup) (m.moment n + pace m.other_setup) (m.moment (suc n)) (m.moment (suc n)) (m.moment (suc n)) (full_round m n both) on off (omega (arith, one)) one other
    (opposite_swapped m.other_end m.one_end m.net.back m.net.there T S (m.moment n) (m.moment n + pace m.other_setup) (m.moment n + pace m.one_setup) (second_half m n both) o)

-- ---- The stages

valid_since : (e : End) (since later until : ℕ) (r : Role) (z : Pair) → since ≤ later → IsValidIn e since until r z → IsValidIn e later until r z
valid_since e since later until r z le v = (record { there = v.0.there; component = v.0.component; valid = v.0.valid; since_by = (let s = v.0.since_by in omega (arith, s, le)); lasting = v.0.lasting; live = v.0.live }, v.1)

-- both are valid, since a moment or before; both have met
abbrev pub AreValid : Meeting → (since n : ℕ) → Agents → Type 0
AreValid m since n both = Between m (IsValidIn m.one_end since (m.moment n)) (IsValidIn m.other_end since (m.moment n)) n both

abbrev pub AreMet : Meeting → (since n : ℕ) → Agents → Type 0
AreMet m since n both = Between m (IsMetIn m.one_end since (m.moment n)) (IsMetIn m.other_end since (m.moment n)) n both

pub met_round : (m : Meeting) (since n : ℕ) (both : Agents) → IsMeeting m → AreMet m since n both → AreMet m since (suc n) (full_round m n both)
met_round m since n both k o =
    let now : ℕ = m.moment n in
    let next : ℕ = m.moment (suc n) in
    let later : now ≤ next = (let p = k.one_paced n in omega (arith, p)) in
    let start = noise_kept m (IsMetIn m.one_end since now) (IsMetIn m.other_end since now) n both k (λ r c z le v. met_lasts m.one_end since now r m.one_setup c z le v) (λ r c z le v. met_lasts m.other_end since now r m.other_setup c z le v) o in
    let first = half_met m.one_setup m.other_setup m.one_end m.other_end m.net.there m.net.back since since now now now now next (m.fresh n 0) (m.fresh n 1) (noisy m n both) (one_half m n k) (omega arith) (omega arith) start in
    let second = half_met m.other_setup m.one_setup m.other_end m.one_end m.net.back m.net.there since since now next now (now + pace m.one_setup) next (m.fresh n 2) (m.fresh n 3) (swapped (first_half m n both)) (other_half m n k) (omega arith) later
    (opposite_swapped m.one_end m.other_end m.net.there m.net.back (IsMetIn m.one_end since next) (IsMetIn m.other_end since now) now (now + pace m.one_setup) now (first_half m n both) first) in
    next_between m (IsMetIn m.one_end since next) (IsMetIn m.other_end since next) (IsMetIn m.one_end since next) (IsMetIn m.other_end since next) n both k (λ r z v. v) (λ r z v. v) second

-- valid both, or met
abbrev pub AreTold : Meeting → (since n : ℕ) → Agents → Type 0
AreTold m since n both = AreValid m since n both ⊎ AreMet m since n both

follows_other : (r q : Role) → r ≡ other_role q → is_controlling r ≡ false → is_controlling q ≡ true
follows_other r Controlling is isnt = refl
follows_other r Controlled is isnt = neither (false ≡ true) (is_controlling r) (ap is_controlling is) isnt

-- a turn of each, from where one is valid and the other too
valid_second : (m : Meeting) (since n : ℕ) (both : Agents) → IsMeeting m → Opposite m.one_end m.other_end m.net.there m.net.back (IsValidIn m.one_end since (m.moment (suc n))) (IsValidIn m.other_end since (m.moment n)) (m.moment n) (m.moment n + pace m.one_setup) (m.moment n) (first_half m n both)
    → AreTold m since (suc n) (full_round m n both) × (is_controlling (first_half m n both).other.role ≡ true → since + m.other_setup.patience ≤ m.moment n → AreMet m since (suc n) (full_round m n both))
valid_second m since n both k o =
    let now : ℕ = m.moment n in
    let next : ℕ = m.moment (suc n) in
    let later : now ≤ next = (let p = k.one_paced n in omega (arith, p)) in
    let V : Role → Pair → Type 0 = IsValidIn m.one_end since next in
    let U : Role → Pair → Type 0 = IsValidIn m.other_end since next in
    let met = λ (x : Opposite m.other_end m.one_end m.net.back m.net.there (IsMetIn m.other_end since next) (IsMetIn m.one_end since next) now (now + pace m.other_setup) (now + pace m.one_setup) (second_half m n both)).
    next_between m (IsMetIn m.one_end since next) (IsMetIn m.other_end since next) (IsMetIn m.one_end since next) (IsMetIn m.other_end since next) n both k (λ r z v. v) (λ r z v. v) x in
    elim (half_patient m.other_setup m.one_setup m.other_end m.one_end m.net.back m.net.there since since now next now (now + pace m.one_setup) next (m.fresh n 2) (m.fresh n 3) (swapped (first_half m n both)) (other_half m n k) (omega arith) later
    (opposite_swapped m.one_end m.other_end m.net.there m.net.back V (IsValidIn m.other_end since now) now (now + pace m.one_setup) now (first_half m n both) o))
    as (λ w. AreTold m since (suc n) (full_round m n both) × (is_controlling (first_half m n both).other.role ≡ true → since + m.other_setup.patience ≤ now → AreMet m since (suc n) (full_round m n both))) [
      | inl still ↦ (inl (next_between m V U V U n both k (λ r z v. v) (λ r z v. v) still.valid), λ controls. λ over. absurd (let p = still.patient controls in omega (arith, p, over)))
      | inr done ↦ (inr (met done), λ _. λ _. met done)
    ]

valid_round : (m : Meeting) (since n : ℕ) (both : Agents) → IsMeeting m → AreValid m since n both
    → AreTold m since (suc n) (full_round m n both) × (since + m.one_setup.patience ≤ m.moment n → since + m.other_setup.patience ≤ m.moment n → AreMet m since (suc n) (full_round m n both))
valid_round m since n both k o =
    let now : ℕ = m.moment n in
    let next : ℕ = m.moment (suc n) in
    let later : now ≤ next = (let p = k.one_paced n in omega (arith, p)) in
    let start = noise_kept m (IsValidIn m.one_end since now) (IsValidIn m.other_end since now) n both k (λ r c z le v. valid_lasts m.one_end since now r m.one_setup c z le v) (λ r c z le v. valid_lasts m.other_end since now r m.other_setup c z le v) o in
    elim (half_patient m.one_setup m.other_setup m.one_end m.other_end m.net.there m.net.back since since now now now now next (m.fresh n 0) (m.fresh n 1) (noisy m n both) (one_half m n k) (omega arith) (omega arith) start)
    as (λ w. AreTold m since (suc n) (full_round m n both) × (since + m.one_setup.patience ≤ now → since + m.other_setup.patience ≤ now → AreMet m since (suc n) (full_round m n both))) [
      | inl still ↦
          let second = valid_second m since n both k still.valid in (
            second.0,
            λ one_over. λ other_over. elim (cases_Bool (is_controlling (noisy m n both).one.role)) as (λ w. AreMet m since (suc n) (full_round m n both)) [
              | inl controls ↦ absurd (let p = still.patient controls in omega (arith, p, one_over))
              | inr isnt ↦ second.1 (ap is_controlling still.role ∙ follows_other (noisy m n both).one.role (noisy m n both).other.role start.roles isnt) other_over
            ],
          )
      | inr done ↦
          let second = half_met m.other_setup m.one_setup m.other_end m.one_end m.net.back m.net.there since since now next now (now + pace m.one_setup) next (m.fresh n 2) (m.fresh n 3) (swapped (first_half m n both)) (other_half m n k) (omega arith) later
          (opposite_swapped m.one_end m.other_end m.net.there m.net.back (IsMetIn m.one_end since next) (IsMetIn m.other_end since now) now (now + pace m.one_setup) now (first_half m n both) done) in
          let met = next_between m (IsMetIn m.one_end since next) (IsMetIn m.other_end since next) (IsMetIn m.one_end since next) (IsMetIn m.other_end since next) n both k (λ r z v. v) (λ r z v. v) second in
          (inr met, λ _. λ _. met)
    ]

pub told_round : (m : Meeting) (since n : ℕ) (both : Agents) → IsMeeting m → AreTold m since n both → AreTold m since (suc n) (full_round m n both)
told_round m since n both k (inl valid) = (valid_round m since n both k valid).0
told_round m since n both k (inr met) = inr (met_round m since n both k met)

pub patient_round : (m : Meeting) (since n : ℕ) (both : Agents) → IsMeeting m → since + m.one_setup.patience ≤ m.moment n → since + m.other_setup.patience ≤ m.moment n → AreTold m since n both → AreMet m since (suc n) (full_round m n both)
patient_round m since n both k one other (inl valid) = (valid_round m since n both k valid).1 one other
patient_round m since n both k one other (inr met) = met_round m since n both k met

-- the other agent's check was answered, and one's is triggered
abbrev IsAnswering : Meeting → (since n : ℕ) → Agents → Type 0
IsAnswering m since n both = Between m (λ _. IsTriggered m.one_end) (IsValidIn m.other_end since (m.moment n)) n both

answering_round : (m : Meeting) (since n : ℕ) (both : Agents) → IsMeeting m → m.moment n ≤ since → IsAnswering m since n both → AreTold m since (suc n) (full_round m n both)
answering_round m since n both k soon o =
    let now : ℕ = m.moment n in
    let next : ℕ = m.moment (suc n) in
    let start = noise_kept m (λ _. IsTriggered m.one_end) (IsValidIn m.other_end since now) n both k (λ r c z le v. triggered_settled m.one_end m.one_setup c z v) (λ r c z le v. valid_lasts m.other_end since now r m.other_setup c z le v) o in
    let first = half_valid m.one_setup m.other_setup m.one_end m.other_end m.net.there m.net.back since now now now next (m.fresh n 0) (m.fresh n 1) (noisy m n both) (one_half m n k) (omega arith) start in
    (valid_second m since n both k (opposite_weaker m.one_end m.other_end m.net.there m.net.back (IsValidIn m.one_end now next) (IsValidIn m.other_end since now) (IsValidIn m.one_end since next) (IsValidIn m.other_end since now)
    now (now + pace m.one_setup) now now (now + pace m.one_setup) now (first_half m n both) (λ r z v. valid_since m.one_end now since next r z soon v) (λ r z v. v) (omega arith) (omega arith) (omega arith) first)).0

-- one's check was answered, and the other's is triggered, in the middle of a round
valid_then : (m : Meeting) (since n : ℕ) (both : Agents) → IsMeeting m → m.moment n ≤ since
    → Opposite m.one_end m.other_end m.net.there m.net.back (IsValidIn m.one_end (m.moment n) (m.moment (suc n))) (λ _. IsTriggered m.other_end) (m.moment n) (m.moment n + pace m.one_setup) (m.moment n) (first_half m n both)
    → AreTold m since (suc n) (full_round m n both)
valid_then m since n both k soon o =
    let now : ℕ = m.moment n in
    let next : ℕ = m.moment (suc n) in
    let later : now ≤ next = (let p = k.one_paced n in omega (arith, p)) in
    let second = half_valid m.other_setup m.one_setup m.other_end m.one_end m.net.back m.net.there now next now (now + pace m.one_setup) next (m.fresh n 2) (m.fresh n 3) (swapped (first_half m n both)) (other_half m n k) later
    (opposite_swapped m.one_end m.other_end m.net.there m.net.back (IsValidIn m.one_end now next) (λ _. IsTriggered m.other_end) now (now + pace m.one_setup) now (first_half m n both) o) in
    inl (next_between m (IsValidIn m.one_end now next) (IsValidIn m.other_end now next) (IsValidIn m.one_end since next) (IsValidIn m.other_end since next) n both k
    (λ r z v. valid_since m.one_end now since next r z soon v) (λ r z v. valid_since m.other_end now since next r z soon v) second)

-- a check was refused by the other agent, and is triggered
abbrev IsRefused : Meeting → (n : ℕ) → Agents → Type 0
IsRefused m n both = HasRefused m.one_end m.other_end m.net.there m.net.back m.other_setup (m.moment n) (m.moment n) (m.moment n) both

-- the other agent's was, and is
abbrev IsDeclined : Meeting → (n : ℕ) → Agents → Type 0
IsDeclined m n both = Declined m.one_end m.other_end m.net.there m.net.back m.one_setup (m.moment n) (m.moment n) (m.moment n) both

noisy_roles : (m : Meeting) (n : ℕ) (both : Agents) → IsMeeting m → both.one.role ≡ other_role both.other.role → (noisy m n both).one.role ≡ other_role (noisy m n both).other.role
noisy_roles m n both k is =
    disturbed_role m.one_setup (m.moment n) both.one (m.one_noise n) (k.one_noise n) ∙ is ∙ ap other_role (sym (disturbed_role m.other_setup (m.moment n) both.other (m.other_noise n) (k.other_noise n)))

refused_noisy : (m : Meeting) (n : ℕ) (both : Agents) → IsMeeting m → IsRefused m n both → IsRefused m n (noisy m n both)
refused_noisy m n both k o = record {
  own = disturbed_agent m.one_end m.net.there (IsTriggered m.one_end) m.one_setup (m.moment n) (m.moment n) both.one (m.one_noise n) (λ c z le v. triggered_settled m.one_end m.one_setup c z v) (k.one_noise n) o.own;
  peer = passive_disturbed m.other_end m.net.back m.other_setup (m.moment n) (m.moment n) both.other (m.other_noise n) (k.other_noise n) o.peer;
  roles = noisy_roles m n both k o.roles;
}

declined_noisy : (m : Meeting) (n : ℕ) (both : Agents) → IsMeeting m → IsDeclined m n both → IsDeclined m n (noisy m n both)
declined_noisy m n both k o = record {
  own = passive_disturbed m.one_end m.net.there m.one_setup (m.moment n) (m.moment n) both.one (m.one_noise n) (k.one_noise n) o.own;
  peer = disturbed_agent m.other_end m.net.back (IsTriggered m.other_end) m.other_setup (m.moment n) (m.moment n) both.other (m.other_noise n) (λ c z le v. triggered_settled m.other_end m.other_setup c z v) (k.other_noise n) o.peer;
  roles = noisy_roles m n both k o.roles;
}

swapped_roles : (both : Agents) → both.one.role ≡ other_role both.other.role → both.other.role ≡ other_role both.one.role
swapped_roles both is = sym (ap other_role is ∙ twice_other both.other.role)

refused_swapped : (e d : End) (net back : ℕ → Endpoint → Option Place) (setup : Setup) (now gate until : ℕ) (both : Agents) → HasRefused e d net back setup now gate until both → Declined d e back net setup now until gate (swapped both)
refused_swapped e d net back setup now gate until both o = record { own = o.peer; peer = o.own; roles = swapped_roles both o.roles }

declined_swapped : (e d : End) (net back : ℕ → Endpoint → Option Place) (setup : Setup) (now gate until : ℕ) (both : Agents) → Declined e d net back setup now gate until both → HasRefused d e back net setup now until gate (swapped both)
declined_swapped e d net back setup now gate until both o = record { own = o.peer; peer = o.own; roles = swapped_roles both o.roles }

-- at the next round
next_refused : (m : Meeting) (n : ℕ) (both : Agents) → IsMeeting m → Declined m.other_end m.one_end m.net.back m.net.there m.other_setup (m.moment n) (m.moment n + pace m.other_setup) (m.moment n + pace m.one_setup) (second_half m n both) → IsRefused m (suc n) (full_round m n both)
next_refused m n both k o =
    let one = k.one_paced n in
    let other = k.other_paced n in
    record {
      own = weaker_agent m.one_end m.net.there (IsTriggered m.one_end) (IsTriggered m.one_end) (m.moment n) (m.moment (suc n)) (m.moment n + pace m.one_setup) (m.moment (suc n)) (full_round m n both).one (λ z v. v) (omega (arith, one)) one o.peer;
      peer = passive_weaker m.other_end m.net.back m.other_setup (m.moment n) (m.moment (suc n)) (m.moment n + pace m.other_setup) (m.moment (suc n)) (full_round m n both).other (omega (arith, one)) other o.own;
      roles = swapped_roles (second_half m n both) o.roles;
    }

next_declined : (m : Meeting) (n : ℕ) (both : Agents) → IsMeeting m → HasRefused m.other_end m.one_end m.net.back m.net.there m.one_setup (m.moment n) (m.moment n + pace m.other_setup) (m.moment n + pace m.one_setup) (second_half m n both) → IsDeclined m (suc n) (full_round m n both)
next_declined m n both k o =
    let one = k.one_paced n in
    let other = k.other_paced n in
    record {
      own = passive_weaker m.one_end m.net.there m.one_setup (m.moment n) (m.moment (suc n)) (m.moment n + pace m.one_setup) (m.moment (suc n)) (full_round m n both).one (omega (arith, one)) one o.peer;
      peer = weaker_agent m.other_end m.net.back (IsTriggered m.other_end) (IsTriggered m.other_end) (m.moment n) (m.moment (suc n)) (m.moment n + pace m.other_setup) (m.moment (suc n)) (full_round m n both).other (λ z v. v) (omega (arith, one)) other o.own;
      roles = swapped_roles (second_half m n both) o.roles;
    }

refused_round : (m : Meeting) (since n : ℕ) (both : Agents) → IsMeeting m → m.moment n ≤ since → IsRefused m n both → AreTold m since (suc n) (full_round m n both)
refused_round m since n both k soon o =
    valid_then m since n both k soon (half_untold m.one_setup m.other_setup m.one_end m.other_end m.net.there m.net.back (m.moment n) (m.moment n) (m.moment (suc n)) (m.fresh n 0) (m.fresh n 1) (noisy m n both) (one_half m n k) (refused_noisy m n both k o))

-- close to it: the roles are opposite, and one's check is triggered, or it is done
abbrev pub IsClose : Meeting → (since n : ℕ) → Agents → Type 0
IsClose m since n both = IsRefused m n both ⊎ (IsAnswering m since n both ⊎ AreTold m since n both)

pub close_round : (m : Meeting) (since n : ℕ) (both : Agents) → IsMeeting m → m.moment n ≤ since → IsClose m since n both → AreTold m since (suc n) (full_round m n both)
close_round m since n both k soon (inl one) = refused_round m since n both k soon one
close_round m since n both k soon (inr (inl one)) = answering_round m since n both k soon one
close_round m since n both k soon (inr (inr one)) = told_round m since n both k one

-- the second turn, where one's check is triggered
triggered_second : (m : Meeting) (since n : ℕ) (both : Agents) → IsMeeting m → m.moment n ≤ since
    → HasRefused m.one_end m.other_end m.net.there m.net.back m.other_setup (m.moment n) (m.moment n + pace m.one_setup) (m.moment n) (first_half m n both) → IsClose m since (suc n) (full_round m n both)
triggered_second m since n both k soon o =
    let now : ℕ = m.moment n in
    let next : ℕ = m.moment (suc n) in
    elim (half_trying m.other_setup m.one_setup m.other_end m.one_end m.net.back m.net.there now (now + pace m.one_setup) next (m.fresh n 2) (m.fresh n 3) (swapped (first_half m n both)) (other_half m n k)
    (refused_swapped m.one_end m.other_end m.net.there m.net.back m.other_setup now (now + pace m.one_setup) now (first_half m n both) o)) as (λ w. IsClose m since (suc n) (full_round m n both)) [
      | inl one ↦ inr (inl (next_between m (λ _. IsTriggered m.one_end) (IsValidIn m.other_end now next) (λ _. IsTriggered m.one_end) (IsValidIn m.other_end since next) n both k (λ r z v. v) (λ r z v. valid_since m.other_end now since next r z soon v) one))
      | inr one ↦ inl (next_refused m n both k one)
    ]

declined_round : (m : Meeting) (since n : ℕ) (both : Agents) → IsMeeting m → m.moment n ≤ since → IsDeclined m n both → IsClose m since (suc n) (full_round m n both)
declined_round m since n both k soon o =
    let now : ℕ = m.moment n in
    let next : ℕ = m.moment (suc n) in
    elim (half_trying m.one_setup m.other_setup m.one_end m.other_end m.net.there m.net.back now now next (m.fresh n 0) (m.fresh n 1) (noisy m n both) (one_half m n k) (declined_noisy m n both k o)) as (λ w. IsClose m since (suc n) (full_round m n both)) [
      | inl one ↦ inr (inr (valid_then m since n both k soon one))
      | inr one ↦ inr (inl (next_between m (λ _. IsTriggered m.one_end) (IsValidIn m.other_end now next) (λ _. IsTriggered m.one_end) (IsValidIn m.other_end since next) n both k (λ r z v. v) (λ r z v. valid_since m.other_end now since next r z soon v)
          (half_untold m.other_setup m.one_setup m.other_end m.one_end m.net.back m.net.there now (now + pace m.one_setup) next (m.fresh n 2) (m.fresh n 3) (swapped (first_half m n both)) (other_half m n k)
          (declined_swapped m.one_end m.other_end m.net.there m.net.back m.one_setup now (now + pace m.one_setup) now (first_half m n both) one))))
    ]

abbrev pub IsNear : Meeting → (since n : ℕ) → Agents → Type 0
IsNear m since n both = IsDeclined m n both ⊎ IsClose m since n both

pub near_round : (m : Meeting) (since n : ℕ) (both : Agents) → IsMeeting m → m.moment n ≤ since → IsNear m since n both → IsClose m since (suc n) (full_round m n both)
near_round m since n both k soon (inl one) = declined_round m since n both k soon one
near_round m since n both k soon (inr one) = inr (inr (close_round m since n both k soon one))

-- ---- While nothing has come back

-- one of them tries the way, and the other may
abbrev pub OneTries : Meeting → (count due most n : ℕ) → Agents → Type 0
OneTries m count due most n both = IsTrying m.one_end m.net.there count (IsHoping m.one_end m.one_setup count due) (m.moment n) (m.moment n) most both.one × IsPassive m.other_end m.net.back m.other_setup (m.moment n) (m.moment n) both.other

abbrev pub OtherTries : Meeting → (count due most n : ℕ) → Agents → Type 0
OtherTries m count due most n both = IsPassive m.one_end m.net.there m.one_setup (m.moment n) (m.moment n) both.one × IsTrying m.other_end m.net.back count (IsHoping m.other_end m.other_setup count due) (m.moment n) (m.moment n) most both.other

trying_untold : (e : End) (net : ℕ → Endpoint → Option Place) (setup : Setup) (count due now gate most : ℕ) (s : State) → IsTrying e net count (IsHoping e setup count due) now gate most s → IsPassive e net setup now gate s
trying_untold e net setup count due now gate most s x = inl (weaker_agent e net (IsHoping e setup count due) (IsUntold e) now now gate gate s (λ z h. h.0) (omega arith) (omega arith) x.agent)

-- what the first half makes of it
first_tried : (m : Meeting) (since n : ℕ) (both : Agents) → IsMeeting m → m.moment n ≤ since
    → Tried m.one_end m.other_end m.net.there m.net.back m.other_setup (m.moment n) (m.moment (suc n)) (m.moment n + pace m.one_setup) (m.moment n) (first_half m n both) → IsNear m since (suc n) (full_round m n both)
first_tried m since n both k soon (inl one) = inr (inr (inr (valid_then m since n both k soon one)))
first_tried m since n both k soon (inr one) = inr (triggered_second m since n both k soon one)

-- and the second
second_tried : (m : Meeting) (since n : ℕ) (both : Agents) → IsMeeting m → m.moment n ≤ since
    → Tried m.other_end m.one_end m.net.back m.net.there m.one_setup (m.moment n) (m.moment (suc n)) (m.moment n + pace m.other_setup) (m.moment n + pace m.one_setup) (second_half m n both) → IsNear m since (suc n) (full_round m n both)
second_tried m since n both k soon (inl one) = inr (inr (inl (next_between m (λ _. IsTriggered m.one_end) (IsValidIn m.other_end (m.moment n) (m.moment (suc n))) (λ _. IsTriggered m.one_end) (IsValidIn m.other_end since (m.moment (suc n))) n both k
    (λ r z v. v) (λ r z v. valid_since m.other_end (m.moment n) since (m.moment (suc n)) r z soon v) one)))
second_tried m since n both k soon (inr one) = inl (next_declined m n both k one)

one_tries_round : (m : Meeting) (since count due most n : ℕ) (both : Agents) → IsMeeting m → m.moment n ≤ since → OneTries m count due most n both
    → IsNear m since (suc n) (full_round m n both) ⊎ (OneTries m count due (less_when due (m.moment n) most) (suc n) (full_round m n both) × (due ≤ m.moment n → 1 ≤ most))
one_tries_round m since count due most n both k soon t =
    let now : ℕ = m.moment n in
    let next : ℕ = m.moment (suc n) in
    let one_later = k.one_paced n in
    let other_later = k.other_paced n in
    let start = noisy m n both in
    let first = first_half m n both in
    let G : Type 0 = IsNear m since (suc n) (full_round m n both) ⊎ (OneTries m count due (less_when due now most) (suc n) (full_round m n both) × (due ≤ now → 1 ≤ most)) in
    let one = trying_disturbed m.one_end m.net.there count m.one_setup due now now most both.one (m.one_noise n) (k.one_noise n) t.0 in
    let other = passive_disturbed m.other_end m.net.back m.other_setup now now both.other (m.other_noise n) (k.other_noise n) t.1 in
    elim (trying_turn m.one_setup m.other_setup m.one_end m.other_end m.net.there m.net.back count due most now now next (m.fresh n 0) (m.fresh n 1) start.one start.other k.one_fit k.there (k.steady n) one other) as (λ w. G) [
      | inl tried ↦ inl (first_tried m since n both k soon tried)
      | inr waits ↦ elim (passive_turn m.other_setup m.one_setup m.other_end m.one_end m.net.back m.net.there now (now + pace m.one_setup) next (m.fresh n 2) (m.fresh n 3) first.other first.one k.other_fit k.back (k.steady n) waits.0.peer
          (trying_untold m.one_end m.net.there m.one_setup count due now (now + pace m.one_setup) (less_when due now most) first.one waits.0.own)) as (λ w. G) [
            | inl tried ↦ inl (second_tried m since n both k soon tried)
            | inr none ↦ inr (
              (
                trying_later m.one_end m.net.there count (IsHoping m.one_end m.one_setup count due) now (now + pace m.one_setup) (less_when due now most) next next (less_when due now most) (full_round m n both).one (omega (arith, one_later)) one_later (omega arith)
                    (subst (IsTrying m.one_end m.net.there count (IsHoping m.one_end m.one_setup count due) now (now + pace m.one_setup) (less_when due now most)) (sym none.1) waits.0.own),
                passive_weaker m.other_end m.net.back m.other_setup now next (now + pace m.other_setup) next (full_round m n both).other (omega (arith, one_later)) other_later none.0,
              ),
              waits.1,
            )
          ]
    ]

other_tries_round : (m : Meeting) (since count due most n : ℕ) (both : Agents) → IsMeeting m → m.moment n ≤ since → OtherTries m count due most n both
    → IsNear m since (suc n) (full_round m n both) ⊎ (OtherTries m count due (less_when due (m.moment n) most) (suc n) (full_round m n both) × (due ≤ m.moment n → 1 ≤ most))
other_tries_round m since count due most n both k soon t =
    let now : ℕ = m.moment n in
    let next : ℕ = m.moment (suc n) in
    let one_later = k.one_paced n in
    let other_later = k.other_paced n in
    let start = noisy m n both in
    let first = first_half m n both in
    let G : Type 0 = IsNear m since (suc n) (full_round m n both) ⊎ (OtherTries m count due (less_when due now most) (suc n) (full_round m n both) × (due ≤ now → 1 ≤ most)) in
    let one = passive_disturbed m.one_end m.net.there m.one_setup now now both.one (m.one_noise n) (k.one_noise n) t.0 in
    let other = trying_disturbed m.other_end m.net.back count m.other_setup due now now most both.other (m.other_noise n) (k.other_noise n) t.1 in
    elim (passive_turn m.one_setup m.other_setup m.one_end m.other_end m.net.there m.net.back now now next (m.fresh n 0) (m.fresh n 1) start.one start.other k.one_fit k.there (k.steady n) one
    (trying_untold m.other_end m.net.back m.other_setup count due now now most start.other other)) as (λ w. G) [
      | inl tried ↦ inl (first_tried m since n both k soon tried)
      | inr none ↦ elim (trying_turn m.other_setup m.one_setup m.other_end m.one_end m.net.back m.net.there count due most now (now + pace m.one_setup) next (m.fresh n 2) (m.fresh n 3) first.other first.one k.other_fit k.back (k.steady n)
          (subst (IsTrying m.other_end m.net.back count (IsHoping m.other_end m.other_setup count due) now now most) (sym none.1) other) none.0) as (λ w. G) [
            | inl tried ↦ inl (second_tried m since n both k soon tried)
            | inr waits ↦ inr (
              (
                passive_weaker m.one_end m.net.there m.one_setup now next (now + pace m.one_setup) next (full_round m n both).one (omega (arith, one_later)) one_later waits.0.peer,
                trying_later m.other_end m.net.back count (IsHoping m.other_end m.other_setup count due) now (now + pace m.other_setup) (less_when due now most) next next (less_when due now most) (full_round m n both).other (omega (arith, one_later)) other_later (omega arith) waits.0.own,
              ),
              waits.1,
            )
          ]
    ]

-- either of them
abbrev pub SomeTries : Meeting → (count due most n : ℕ) → Agents → Type 0
SomeTries m count due most n both = OneTries m count due most n both ⊎ OtherTries m count due most n both

pub some_tries_round : (m : Meeting) (since count due most n : ℕ) (both : Agents) → IsMeeting m → m.moment n ≤ since → SomeTries m count due most n both
    → IsNear m since (suc n) (full_round m n both) ⊎ (SomeTries m count due (less_when due (m.moment n) most) (suc n) (full_round m n both) × (due ≤ m.moment n → 1 ≤ most))
some_tries_round m since count due most n both k soon (inl one) = elim (one_tries_round m since count due most n both k soon one) as (λ w. IsNear m since (suc n) (full_round m n both) ⊎ (SomeTries m count due (less_when due (m.moment n) most) (suc n) (full_round m n both) × (due ≤ m.moment n → 1 ≤ most))) [
  | inl near ↦ inl near
  | inr waits ↦ inr (inl waits.0, waits.1)
]
some_tries_round m since count due most n both k soon (inr other) = elim (other_tries_round m since count due most n both k soon other) as (λ w. IsNear m since (suc n) (full_round m n both) ⊎ (SomeTries m count due (less_when due (m.moment n) most) (suc n) (full_round m n both) × (due ≤ m.moment n → 1 ≤ most))) [
  | inl near ↦ inl near
  | inr waits ↦ inr (inr waits.0, waits.1)
]
