use Rattle.stun_types_c.proofs.ice_lite_calls.route.Goals as goal

pub returns : goal.returns
returns c = record {
  kept_is = c.route-found.ensures.state;
  route = c.route-found.result;
  routes = c.route-found.ensures.data;
  in_c = c.route_in_c.ensures;
}
