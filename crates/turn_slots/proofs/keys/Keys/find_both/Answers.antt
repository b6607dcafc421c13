use Rattle.std.proofs.Common.{◌-◌, ℕ, Option, None, Some, sym, ap, ◌∙◌, arith}
use Rattle.std.specs.Option.{IfNone}
use Rattle.turn_slots.specs.Hashes.{bucket}
use Rattle.turn_slots.proofs.KeysLemmas.{bucket_in, not_found}
use Rattle.turn_slots.proofs.keys.Keys.find_both.Goals as goal

pub find_in-place-requires-clause-bucket : goal.find_in-place-requires-clause-bucket
find_in-place-requires-clause-bucket g c =
    let low = bucket_in c.self.inside.secret g.K.Hash.hash_input c.self.inside.keys.items c.self.inside.buckets c.self.invariant c.args.first.now in
    let e = ap (λ (z : ℕ). bucket c.self.inside.secret (z - 1) (g.K.Hash.hash_input c.args.first.now)) c.groups.ensures in
    omega (arith, low, e, c.bucket-bucket.ensures)

pub find_in-other-requires-clause-bucket : goal.find_in-other-requires-clause-bucket
find_in-other-requires-clause-bucket g c =
    let low = bucket_in c.self.inside.secret g.K.Hash.hash_input c.self.inside.keys.items c.self.inside.buckets c.self.invariant c.args.first.now in
    let e = ap (λ (z : ℕ). bucket c.self.inside.secret (z - 1) (g.K.Hash.hash_input c.args.first.now)) c.groups.ensures in
    omega (arith, low, e, c.bucket-bucket.ensures)

none_found : {A B : Type 0} (o : Option ℕ) → (A → B) → IfNone o A → IfNone o B
none_found None f a = f a
none_found (Some n) f a = tt

pub returns-clause-none : goal.returns-clause-none
returns-clause-none g c =
    let e = ap (λ (z : ℕ). bucket c.self.inside.secret (z - 1) (g.K.Hash.hash_input c.args.first.now)) c.groups.ensures in
    none_found c.find_in-place.result (λ none.
    rw (← c.self.view_is) (not_found c.self.inside.secret g.K.Hash.hash_input c.self.inside.keys.items c.self.inside.buckets c.self.invariant g.K.PartialEq.eq g.met.K.Hash.respects_eq c.args.first.now
    (λ place lt same. rw (← c.deref.ensures.value) (none place (rw c.deref.ensures.value lt) (same ∙ sym (c.bucket-bucket.ensures ∙ e)))))) c.find_in-place.ensures.none

pub returns-clause-second_none : goal.returns-clause-second_none
returns-clause-second_none g c =
    let e = ap (λ (z : ℕ). bucket c.self.inside.secret (z - 1) (g.K.Hash.hash_input c.args.first.now)) c.groups.ensures in
    let alike = ap (bucket c.self.inside.secret (c.self.inside.buckets.groups - 1)) c.requires in
    none_found c.find_in-other.result (λ none.
    rw (← c.self.view_is) (not_found c.self.inside.secret g.K.Hash.hash_input c.self.inside.keys.items c.self.inside.buckets c.self.invariant g.K.PartialEq.eq g.met.K.Hash.respects_eq c.args.second.now
    (λ place lt same. rw (← c.deref-2.ensures.value) (none place (rw c.deref-2.ensures.value lt) (same ∙ (alike ∙ sym (c.bucket-bucket.ensures ∙ e))))))) c.find_in-other.ensures.none
