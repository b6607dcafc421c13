-- An instance of the law: its premises can be met.
use Rattle.std.proofs.Common.{◌≡◌, ℕ, suc, ◌+◌, ◌*◌, ◌^◌, ◌<◌, ◌≤◌, inl, inr, refl, arith}
use Rattle.ice_machine.specs.Roles.{Role}
use Rattle.ice_machine.specs.Runs.{run}
use Rattle.ice_machine.specs.Meetings.{after, IsFit, IsMeeting, HaveMet, delay}
use Rattle.ice_machine.specs.Starting.{HasWay}
use Rattle.ice_machine.specs.Examples.{setup_1, through_nat, end_1, meeting_1, begin_1, told_1}
use Rattle.ice_machine.proofs.StartingLemmas.{fresh_meet}

fit_1 : IsFit setup_1
fit_1 = record { room = omega arith; prompt = omega arith }

paced_1 : (n : ℕ) → 50_000_000 * n + 50_000_000 ≤ 50_000_000 * suc n
paced_1 n = omega arith

steady_1 : (n : ℕ) → 50_000_000 * suc n ≤ 50_000_000 * n + 20_000_000_000
steady_1 n = omega arith

is_meeting_1 : IsMeeting meeting_1
is_meeting_1 = record {
  one_fit = fit_1;
  other_fit = fit_1;
  there = refl;
  back = refl;
  one_paced = paced_1;
  other_paced = paced_1;
  steady = steady_1;
  one_noise = λ n. tt;
  other_noise = λ n. tt;
}

none_1 : (i : ℕ) → i < 0 → 50_000_000 * i + 500_000_000 * 2 ^ i ≤ 0
none_1 i lt = absurd (omega (arith, lt))

way_20 : (role : Role) → HasWay (end_1 20) through_nat.there setup_1 (begin_1 role 5) (told_1 20 21)
way_20 role = record {
  told = ((refl, refl), ((refl, refl), ((refl, refl), ((refl, refl), ((refl, refl), tt)))));
  ready = refl;
  based = refl;
  way = refl;
  each = (
    inr (record { elsewhere = refl; unanswered = refl; apart = refl }),
    (
      inr (record { elsewhere = refl; unanswered = refl; apart = refl }),
      (
        inr (record { elsewhere = refl; unanswered = refl; apart = refl }),
        (inl (record { there = refl; component = refl; foundation = refl; remote_foundation = refl }), tt),
      ),
    ),
  );
}

way_30 : (role : Role) → HasWay (end_1 30) through_nat.back setup_1 (begin_1 role 9) (told_1 30 11)
way_30 role = record {
  told = ((refl, refl), ((refl, refl), ((refl, refl), ((refl, refl), ((refl, refl), tt)))));
  ready = refl;
  based = refl;
  way = refl;
  each = (
    inr (record { elsewhere = refl; unanswered = refl; apart = refl }),
    (
      inr (record { elsewhere = refl; unanswered = refl; apart = refl }),
      (
        inr (record { elsewhere = refl; unanswered = refl; apart = refl }),
        (inl (record { there = refl; component = refl; foundation = refl; remote_foundation = refl }), tt),
      ),
    ),
  );
}

over_1 : (most : ℕ) → most ≡ 3 → 50_000_000 * (0 + most + 2) + 200_000_000 ≤ 50_000_000 * 9
over_1 most is = omega (arith, is)

delay_1 : (role : Role) → delay 0 (end_1 20) (run setup_1 (begin_1 role 5) (told_1 20 21)).pairs ≡ 3
delay_1 role = refl

pub example_meets : (role peer_role : Role) → HaveMet meeting_1 11 (after meeting_1 11 (record { one = run setup_1 (begin_1 role 5) (told_1 20 21); other = run setup_1 (begin_1 peer_role 9) (told_1 30 11) }))
example_meets role peer_role = fresh_meet meeting_1 (begin_1 role 5) (begin_1 peer_role 9) (told_1 20 21) (told_1 30 11) 0 0 0 9 11 is_meeting_1 (way_20 role) (way_30 peer_role) (omega arith) (inl refl) none_1 (omega arith) (omega arith)
    (over_1 _ (delay_1 role)) (over_1 _ (delay_1 role)) (omega arith)
