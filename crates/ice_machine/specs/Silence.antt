-- What is sent to an address that no authentic message comes from: such as a victim, whose address was
-- signalled as a candidate (RFC 8445, section 19.5.1).
use Rattle.std.specs.Prelude.{◌≡◌, ℕ, ◌+◌, Bool, false, ◌&&◌, ◌==◌, List, [], ◌∷◌, if◌then◌else◌}
use Rattle.stun_endpoints.specs.declared.endpoints.Endpoint.{Endpoint}
use Rattle.stun_endpoints.specs.Endpoints.{is_endpoint}
use Rattle.ice_machine.specs.Events.{Event, gathers, learns, meets, ends, checks, responds, strays, arrives, sends, polls, Output, asks, answers, data_to, data_from, nothing}
use Rattle.ice_machine.specs.Runs.{Happening}

abbrev pub is_place : (base : ℕ) → Endpoint → (other : ℕ) → Endpoint → Bool
is_place base to other address = (base == other) && is_endpoint to address

abbrev pub speaks : (base : ℕ) → (from : Endpoint) → Event → Bool
speaks base from (gathers b) = false
speaks base from (learns r) = false
speaks base from meets = false
speaks base from ends = false
speaks base from (checks c) = is_place base from c.base c.from
speaks base from (responds at_base sender id answer) = is_place base from at_base sender
speaks base from (strays at_base sender id size code) = false
speaks base from (arrives at_base sender bytes) = false
speaks base from (sends component bytes) = false
speaks base from polls = false

abbrev pub IsSilent : (base : ℕ) → (from : Endpoint) → List Happening → Type 0
IsSilent base from [] = Unit {0}
IsSilent base from (h ∷ earlier) =
    (speaks base from h.event ≡ false) × IsSilent base from earlier

abbrev pub is_request_to : (base : ℕ) → Endpoint → Output → Bool
is_request_to base to (asks r) = is_place base to r.base r.to
is_request_to base to (answers other address id answer) = false
is_request_to base to (data_to other address bytes) = false
is_request_to base to (data_from component bytes) = false
is_request_to base to nothing = false

abbrev pub requests_to : (base : ℕ) → Endpoint → List Happening → ℕ
requests_to base to [] = 0
requests_to base to (h ∷ earlier) = if is_request_to base to h.output
    then 1 + requests_to base to earlier else requests_to base to earlier
