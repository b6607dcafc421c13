-- The permissions of one relayed address.
use Rattle.std.specs.Prelude.{◌≡◌, false, List, [], ◌∷◌}
use Rattle.std.specs.List.{list_any}
use Rattle.stun_endpoints.specs.Endpoints.{is_ip}
use Rattle.turn_machine.specs.declared.grants.Permission.{Permission}

-- no two permissions are of one IP address
abbrev pub AreDistinct : List Permission → Type 0
AreDistinct [] = Unit {0}
AreDistinct (p ∷ ps) = (list_any (λ q. is_ip p.ip q.ip) ps ≡ false) × AreDistinct ps
