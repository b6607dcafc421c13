-- Roles, and their conflict (RFC 8445, sections 7.2.5.1 and 7.3.1.1).
use Rattle.std.specs.Prelude.{ℕ, Option, Some, None, nat_le, if◌then◌else◌}
use Rattle.ice_attrs.specs.declared.roles.Role.{Role}
use Rattle.ice_attrs.specs.declared.roles.Role.TheVariants.{Controlling, Controlled}
use Rattle.ice_attrs.specs.declared.roles.RoleDecision.{RoleDecision}
use Rattle.ice_attrs.specs.declared.roles.RoleDecision.TheVariants.{Keep, Switch, Refuse}

abbrev pub other_role : Role → Role
other_role Controlling = Controlled
other_role Controlled = Controlling

-- what an agent of a role and a tiebreaker does about a check that shows a role with these contents
-- (section 7.3.1.1)
abbrev pub role_decision :
    (role : Role) → (tiebreaker : ℕ) → (shown : Role) → (contents : ℕ) → RoleDecision
role_decision Controlling tiebreaker Controlling contents =
    if nat_le contents tiebreaker then Refuse else Switch
role_decision Controlled tiebreaker Controlled contents =
    if nat_le contents tiebreaker then Switch else Refuse
role_decision Controlling tiebreaker Controlled contents = Keep
role_decision Controlled tiebreaker Controlling contents = Keep

-- 487 (Role Conflict, section 20.2), or a success response
abbrev pub refusal_code : RoleDecision → Option ℕ
refusal_code Keep = None
refusal_code Switch = None
refusal_code Refuse = Some 487

-- the roles of two agents of one role once a check between them is decided: of the agent that sent
-- it, which switches on error 487 (section 7.2.5.1), and of the one that received it
abbrev pub roles_after : (role : Role) → RoleDecision → Role × Role
roles_after role Keep = (role, role)
roles_after role Switch = (role, other_role role)
roles_after role Refuse = (other_role role, role)

-- a check of an agent with a tiebreaker, received by another one of its role with another
abbrev pub settled : (role : Role) → (sender receiver : ℕ) → Role × Role
settled role sender receiver = roles_after role (role_decision role receiver role sender)
