use Rattle.std.proofs.Common.{◌≡◌, ℕ, ◌+◌, ◌≤◌, Option, ap, sym, ◌∙◌, subst}
use Rattle.turn_machine.specs.Relays.{seconds}
use Rattle.turn_relays.specs.Relayed.{Table}
use Rattle.turn_allocations.specs.declared.client.Place.{Place}
use Rattle.turn_allocations.specs.Clients.{lifetime_max, AreSound}
use Rattle.turn_allocations.specs.Granting.{changed_in}
use Rattle.turn_allocations.specs.Refreshing.{ends_at}
use Rattle.turn_allocations.proofs.RefreshingLemmas.{wanted_last, sound_ends, clock_kept}
use Rattle.turn_allocations.proofs.refreshing.set_ends.Goals as goal

pub returns-clause-becomes : goal.returns-clause-becomes
returns-clause-becomes g c = λ tuple user owns mine.
    let t = c.args.relays.now in
    let first = c.set_end_in.ensures ∙ ap (λ (o : Option Place). changed_in o (ends_at c.args.expires_at) t) c.if_wanted.ensures in
    wanted_last c.list_follows_slots.ensures c.lists_have_slots.ensures t tuple user c.args.client.now owns mine c.requires.sound c.args.family c.args.expires_at c.set_end_in-2.new.relays
    (c.set_end_in-2.ensures ∙ (ap (λ (o : Option Place). changed_in o (ends_at c.args.expires_at) c.set_end_in.new.relays) c.if_wanted-2.ensures ∙ ap (changed_in _ (ends_at c.args.expires_at)) first))

pub returns-clause-sound : goal.returns-clause-sound
returns-clause-sound g c =
    let t = c.args.relays.now in
    let one = subst AreSound (sym c.set_end_in.ensures) (sound_ends c.lists_have_slots.ensures t c.if_wanted.result c.args.expires_at c.requires.soon c.requires.sound) in
    let clock : c.set_end_in.new.relays.clock ≡ t.clock = ap (λ (x : Table). x.clock) c.set_end_in.ensures ∙ clock_kept c.if_wanted.result (ends_at c.args.expires_at) t in
    subst AreSound (sym c.set_end_in-2.ensures) (sound_ends c.lists_have_slots.ensures c.set_end_in.new.relays c.if_wanted-2.result c.args.expires_at (subst (λ (n : ℕ). c.args.expires_at ≤ n + seconds lifetime_max) (sym clock) c.requires.soon) one)
