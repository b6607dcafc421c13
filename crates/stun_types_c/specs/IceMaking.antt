-- How an ICE agent is made by what C passes.
use Rattle.std.specs.Prelude.{◌≡◌, ◌⊎◌, ℕ, Bool, ◌&&◌, List, Option, None, Some, is_some, IsSomeAnd, MatchOption, option_and_then, ◌==◌, if◌then◌else◌}
use Rattle.std.specs.Option.{option_map, option_or}
use Rattle.std.specs.Str.{is_utf8}
use Rattle.ice_attrs.specs.Credentials.{is_ufrag, is_password}
use Rattle.ice_machine.specs.declared.roles.Role.{Role}
use Rattle.ice_machine.specs.declared.roles.Role.TheVariants.{Controlling, Controlled}
use Rattle.ice_machine.specs.Runs.{begun}
use Rattle.ice_agent_state.specs.declared.settings.Settings.{Settings}
use Rattle.ice_agent_state.specs.Agents.{setup_of}
use Rattle.ice_agent_state.specs.Reports.{nothing_of}
use Rattle.ice_checks.specs.Views.{Login}
use Rattle.ice_agent.specs.Agents.{Agent, IsLogin, met}
use Rattle.stun_types_c.specs.declared.call_result.CResult.{CResult}
use Rattle.stun_types_c.specs.declared.ice_core.IceCore.{IceCore}
use Rattle.stun_types_c.specs.declared.ice_settings.CIceSettings.{CIceSettings}
use Rattle.stun_types_c.specs.declared.ice_settings.CheckedIce.{CheckedIce}
use Rattle.stun_types_c.specs.AllocationMaking.{number_named, wait_named}
use Rattle.stun_types_c.specs.CResults.{plain, Refuses}
use Rattle.stun_types_c.specs.Codes.{OK, INVALID_DATA, OUT_OF_MEMORY, EXISTS, BAD_ARGUMENT}
use Rattle.stun_types_c.specs.Keys.{password_answer}
use Rattle.stun_types_c.specs.Refusals.{text_answer}
use Rattle.stun_types_c.specs.TurnMaking.{argument_answer, software_named}

-- ---- What each number means

abbrev pub role_named : ℕ → Option Role
role_named number =
    if number == 1 then Some Controlling else (if number == 2 then Some Controlled else None)

-- how many pairs, candidates and requests there are at most; Ta, the first wait and the patience; and how many
-- requests a check has at most (RFC 8445, sections 6.1.2.5, 8.1.1 and 14)
abbrev pub settings_by : CIceSettings → (pairs candidates requests tries : ℕ) → Settings
settings_by named pairs candidates requests tries = record {
  most_pairs = pairs;
  most_candidates = candidates;
  most_requests = requests;
  ta = wait_named named.ta 50_000_000;
  rto = wait_named named.rto 500_000_000;
  most_tries = tries;
  patience = wait_named named.patience 200_000_000;
}

abbrev pub settings_named : CIceSettings → Option Settings
settings_named named =
    option_and_then (λ pairs. option_and_then (λ candidates. option_and_then (λ requests.
    option_map (settings_by named pairs candidates requests) (number_named 32 5 named.tries))
    (number_named 4096 200 named.requests)) (number_named 4096 32 named.candidates))
    (number_named 4096 100 named.pairs)

-- each number is in its range, and reserved is 0
abbrev pub checked_named : CIceSettings → Option CheckedIce
checked_named named =
    if named.reserved == 0 then
    option_and_then (λ role. option_map (λ settings. record { settings = settings; role = role })
    (settings_named named)) (role_named named.role) else None

-- ---- Credentials

-- a username fragment, and a password (RFC 8445, section 5.3)
abbrev pub is_fragment : List ℕ → Bool
is_fragment bytes = is_utf8 bytes && is_ufrag bytes

abbrev pub is_secret : List ℕ → Bool
is_secret bytes = is_utf8 bytes && is_password bytes

-- why bytes are none
abbrev pub data_answer : (fine : Bool) → Option CResult
data_answer fine = if fine then None else Some (plain INVALID_DATA)

abbrev pub login_answer : (ufrag password : List ℕ) → Option CResult
login_answer ufrag password =
    option_or (password_answer password)
    (option_or (data_answer (is_fragment ufrag)) (data_answer (is_secret password)))

-- ---- The agent

abbrev pub agent_answer : CIceSettings → Option CResult
agent_answer named =
    option_or (argument_answer (is_some (checked_named named)))
    (option_or (login_answer named.ufrag.now named.password.now) (text_answer named.software.now))

-- it has no candidates, and nothing was reported of it
abbrev pub agent_with : CheckedIce → (tiebreaker : ℕ) → (own : Login) → (software : Option (List ℕ)) → Agent
agent_with checked tiebreaker own software = record {
  held = record {
    setup = setup_of checked.settings;
    state = begun (record { role = checked.role; tiebreaker = tiebreaker });
  };
  reports = nothing_of checked.settings checked.role;
  logins = record { own = own; peer = None };
  software = software;
}

abbrev pub agent_of : CIceSettings → CheckedIce → (own : Login) → Agent
agent_of named checked own =
    agent_with checked named.tiebreaker own (software_named named.software.now)

pub record IsMadeBy (named : CIceSettings) (checked : CheckedIce) (core : IceCore) : Type 0 where
  pub own : Login
  pub own_is : IsLogin named.ufrag.now named.password.now own
  pub agent_is : core.agent ≡ agent_of named checked own

abbrev pub IsMade : CIceSettings → IceCore → Type 0
IsMade named core = IsSomeAnd (checked_named named) (λ checked. IsMadeBy named checked core)

-- a handle holds it, or the call returns why not, and the handle holds what it held
abbrev pub MakesAgent : CIceSettings → CResult → (old new : Option IceCore) → Type 0
MakesAgent named result old new =
    MatchOption (agent_answer named) ((result ≡ plain OK) × IsSomeAnd new (IsMade named))
    (λ answer. Refuses answer result old new)
    ⊎ Refuses (plain OUT_OF_MEMORY) result old new

-- ---- The peer

-- the agent is another one then
abbrev pub with_agent : Agent → IceCore → IceCore
with_agent agent core = record core { agent = agent }

-- the credentials that are known first stay
abbrev pub peer_result : (is_known : Bool) → CResult
peer_result is_known = if is_known then plain EXISTS else plain OK

pub record MeetsPeer (core : IceCore) (now : ℕ) (ufrag password : List ℕ) (result : CResult) (kept : IceCore)
    : Type 0 where
  pub peer : Login
  pub peer_is : IsLogin ufrag password peer
  pub kept_is : kept ≡ with_agent (met now peer core.agent) core
  pub result_is : result ≡ peer_result (is_some core.agent.logins.peer)

abbrev pub MeetsBy : (core : IceCore) → (now : ℕ) → (ufrag password : List ℕ) → CResult → (old new : Option IceCore)
    → Type 0
MeetsBy core now ufrag password result old new =
    MatchOption (login_answer ufrag password) (IsSomeAnd new (MeetsPeer core now ufrag password result))
    (λ answer. Refuses answer result old new)
    ⊎ Refuses (plain OUT_OF_MEMORY) result old new

abbrev pub SetsPeer : (now : ℕ) → (ufrag password : List ℕ) → CResult → (old new : Option IceCore) → Type 0
SetsPeer now ufrag password result old new =
    MatchOption old (Refuses (plain BAD_ARGUMENT) result old new)
    (λ core. MeetsBy core now ufrag password result old new)
