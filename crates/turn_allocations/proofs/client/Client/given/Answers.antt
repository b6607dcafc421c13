use Rattle.std.proofs.Common.{◌∙◌, ap, sym, Option}
use Rattle.std.specs.Option.{option_map_or}
use Rattle.turn_machine.specs.Relays.{Relay}
use Rattle.turn_allocations.proofs.ClientLemmas.{given_own, number_place, find_first, find_second}
use Rattle.turn_allocations.proofs.client.Client.given.Goals as goal

pub returns-clause-ipv4 : goal.returns-clause-ipv4
returns-clause-ipv4 c = λ t tuple owns. rw c.given.ensures
    (number_place t tuple c.args.self.now owns 1 c.args.self.now.ipv4 owns.ipv4
    ∙ ap (λ (o : Option Relay). option_map_or (λ a. a.number) o 0) (sym (find_first t tuple c.args.self.now owns)))

pub returns-clause-ipv6 : goal.returns-clause-ipv6
returns-clause-ipv6 c = λ t tuple owns. rw c.given-2.ensures
    (number_place t tuple c.args.self.now owns 2 c.args.self.now.ipv6 owns.ipv6
    ∙ ap (λ (o : Option Relay). option_map_or (λ a. a.number) o 0) (sym (find_second t tuple c.args.self.now owns)))

pub returns-clause-list : goal.returns-clause-list
returns-clause-list c = λ t tuple owns. rw (c.given.ensures, c.given-2.ensures) (given_own t tuple c.args.self.now owns)
