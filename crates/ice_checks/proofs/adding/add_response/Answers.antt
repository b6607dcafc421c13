use Rattle.ice_checks.proofs.adding.add_response.Goals as goal

pub returns-in-BadRequest : goal.returns-in-BadRequest
returns-in-BadRequest g c = rw c.in-BadRequest.is c.add_error_value.ensures

pub returns-in-Unauthenticated : goal.returns-in-Unauthenticated
returns-in-Unauthenticated g c = rw c.in-Unauthenticated.is c.add_error_value-in-Unauthenticated.ensures

pub returns-in-RoleConflict : goal.returns-in-RoleConflict
returns-in-RoleConflict g c = rw c.in-RoleConflict.is c.add_error_value-in-RoleConflict.ensures
