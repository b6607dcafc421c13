use Rattle.std.proofs.Common.{◌≡◌, ◌∙◌, ◌++◌, List, length, take, drop, ap, sym, subst, rules}
use Rattle.stun_endpoints.specs.declared.endpoints.Endpoint.{Endpoint}
use Rattle.ice_machine.specs.Steps.{changed_first}
use Rattle.ice_agent_state.specs.declared.discoveries.Found.{Found}
use Rattle.ice_agent_state.specs.Reports.{Reports}
use Rattle.ice_agent_state.specs.Kept.{Kept, addresses_of, founds_of, is_found, reported}
use Rattle.ice_agent_state.proofs.AskedLemmas.{changed_length}
use Rattle.ice_agent_state.proofs.ListsLemmas.{take_written}
use Rattle.ice_agent_state.proofs.KeptLemmas.{same_addresses, less_found}
use Rattle.ice_agent_state.proofs.changes.Changes.mark_found.Goals as goal

pub returns : goal.returns
returns c =
    let items = c.self.inside.addresses.items in
    let changed = changed_first is_found reported items in
    let is : c.mark_first.new.addresses ≡ changed = search rules in
    let length_is : length c.mark_first.new.addresses ≡ length items = ap (λ (ks : List Kept). length ks) is ∙ changed_length is_found reported items in
    let all : c.self.inside.addresses.len ≡ length items = search rules in
    let written = sym is ∙ take_written c.mark_first.new.addresses items c.self.inside.addresses.len length_is all in
    let put = take c.self.inside.addresses.len (c.mark_first.new.addresses ++ drop (length c.mark_first.new.addresses) items) in
    let shown : List Endpoint → List Found → Reports = λ addresses found. record {
      role = c.self.inside.role;
      statuses = c.self.inside.statuses.items;
      losses = c.self.inside.losses.items;
      addresses = addresses;
      found = found;
      most_statuses = c.self.inside.most_statuses;
      most_losses = c.self.inside.most_losses;
      most_addresses = c.self.inside.most_addresses;
    } in
    subst (λ (r : Reports). shown (addresses_of put) (founds_of put) ≡ record r { found = drop 1 r.found }) c.self.view_is
    (ap (λ (ks : List Kept). shown (addresses_of ks) (founds_of ks)) (sym written)
    ∙ ap (λ (addresses : List Endpoint). shown addresses (founds_of changed)) (same_addresses items)
    ∙ ap (λ (found : List Found). shown (addresses_of items) found) (less_found items))
