use Rattle.std.proofs.Common.{rules, ◌≡◌, ◌∷◌, [], ◌++◌, sym, ◌∙◌}
use Rattle.stun_types.proofs.TableLemmas.{sets_in_place, sets_behind, no_value}
use Rattle.stun_types.proofs.show.table.Table.set.Goals as goal

pub returns-in_err-map_err-in-None-clause-first : goal.returns-in_err-map_err-in-None-clause-first
returns-in_err-map_err-in-None-clause-first g c = let none = no_value c.args.self.now.entries.items c.args.number (sym c.place.ensures ∙ c.in-None.is) in search (rules, none)

pub returns-in-Some-clause-set : goal.returns-in-Some-clause-set
returns-in-Some-clause-set g c = sets_in_place _ _ _ _ (sym c.place.ensures ∙ c.in-Some.is)

pub returns-in_ok-map_err-in-None-clause-set : goal.returns-in_ok-map_err-in-None-clause-set
returns-in_ok-map_err-in-None-clause-set g c =
    let items : c.push.new.self.items ≡ c.args.self.now.entries.items ++ (c.args.number, c.args.value) ∷ [] = search rules in
    rw items (sets_behind c.args.self.now.entries.items c.args.number c.args.value (sym c.place.ensures ∙ c.in-None.is))
