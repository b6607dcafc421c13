-- The bytes of the data are the events of the two machines.
use Rattle.std.proofs.Common.{◌≡◌, ℕ, Bool, false, List, ◌++◌, Option, sym, ap, subst, ◌∙◌}
use Rattle.std.proofs.lemmas.Bool.{cond-true}
use Rattle.stun_base.specs.declared.transport.TransportType.{TransportType}
use Rattle.stun_endpoints.specs.Endpoints.{is_endpoint}
use Rattle.stun_endpoints.proofs.AddressesLemmas.{endpoint_is_itself}
use Rattle.turn_client.specs.Clients.{Client}
use Rattle.turn_client.specs.Receiving.{awaited, dealing, event_at, free_number}
use Rattle.turn_client.specs.Runs.{Moment as ClientMoment, after_all}
use Rattle.turn_client.proofs.HistoriesLemmas.{settings_stay, transport_stays}
use Rattle.turn_client_state.specs.declared.settings.Settings.{Settings}
use Rattle.turn_machine.specs.Works.{output_of}
use Rattle.stun_endpoints.specs.declared.endpoints.Endpoint.{Endpoint}
use Rattle.stun_endpoints.specs.declared.endpoints.FiveTuple.{FiveTuple}
use Rattle.turn_allocations.specs.declared.families.Families.{Families}
use Rattle.turn_client_machine.specs.Events.{Output, asks, send_to, send_on, shows, strays, nothing}
use Rattle.turn_client_machine.specs.Joined.{at_client, at_server}
use Rattle.turn_client_machine.specs.Reach.{IsRelayed}
use Rattle.turn_client_messages.specs.Judging.{event_of as event_heard, judge as hears}
use Rattle.turn_client_messages.specs.Views.{Asked, Dealing}
use Rattle.turn_machine.specs.Events.{Output as ServerOutput, answers, arrives, to_client, to_client_icmp, to_client_on, to_peer, nothing as no_output}
use Rattle.turn_machine.specs.Relays.{Rules, Setup, State}
use Rattle.turn_machine.specs.Reserving.{OuterState, inner_run, plain}
use Rattle.turn_machine.specs.Runs.{Timed, run}
use Rattle.turn_machine.specs.Steps.{step}
use Rattle.turn_server.specs.Acting.{acted, data_act}
use Rattle.turn_server.specs.Datagrams.{Moment, events_in, kept}
use Rattle.turn_server.specs.Judging.{Judged, Site, event_of, judge, sent, sent_on}
use Rattle.turn_sessions.specs.Crossing.{Gives, IsBrought, IsCarriedOn, IsTo, Sends, brought_by}
use Rattle.turn_sessions.specs.Sides.{Fits, IsTransported}
use Rattle.turn_sessions.proofs.AddressesLemmas.{AreOfEndpoints}
use Rattle.turn_sessions.proofs.ChannelsLemmas.{channel_heard, channel_read}
use Rattle.turn_sessions.proofs.DataLemmas.{given_heard, sent_read}

-- ---- From the client

-- what the data is judged to be
abbrev judged_as : Output → Judged → Type 0
judged_as (send_to peer bytes) judged = judged ≡ sent peer false bytes
judged_as (send_on channel bytes) judged = judged ≡ sent_on channel bytes
judged_as _ judged = ⊥

judged_is : AreOfEndpoints → (last_channel : ℕ) (sets_df : Bool) (site : Site) (transport : TransportType) (output : Output) (d : List ℕ) → Sends transport output d → judged_as output (judge last_channel sets_df site d)
judged_is sockets last_channel sets_df site transport (send_to peer bytes) d (is, short, (id, small, fits, text)) =
    ap (judge last_channel sets_df site) text ∙ sent_read sockets last_channel sets_df site id peer bytes small is short (subst Fits text fits)
judged_is sockets last_channel sets_df site transport (send_on channel bytes) d (is, short, text) =
    ap (judge last_channel sets_df site) text ∙ channel_read last_channel sets_df site transport channel bytes is short
judged_is sockets last_channel sets_df site transport (asks r others) d s = absurd s
judged_is sockets last_channel sets_df site transport (shows peer bytes) d s = absurd s
judged_is sockets last_channel sets_df site transport nothing d s = absurd s

event_is : (tuple : FiveTuple) (h : OuterState) (numbers : Families ℕ) (output : Output) (judged : Judged) → judged_as output judged → event_of tuple h numbers judged ≡ plain (at_server tuple output)
event_is tuple h numbers (send_to peer bytes) judged e = ap (event_of tuple h numbers) e
event_is tuple h numbers (send_on channel bytes) judged e = ap (event_of tuple h numbers) e
event_is tuple h numbers (asks r others) judged e = absurd e
event_is tuple h numbers (shows peer bytes) judged e = absurd e
event_is tuple h numbers nothing judged e = absurd e

pub sent_event : AreOfEndpoints → (last_channel : ℕ) (sets_df : Bool) (site : Site) (transport : TransportType) (tuple : FiveTuple) (h : OuterState) (numbers : Families ℕ) (output : Output) (d : List ℕ)
    → Sends transport output d → event_of tuple h numbers (judge last_channel sets_df site d) ≡ plain (at_server tuple output)
sent_event sockets last_channel sets_df site transport tuple h numbers output d s =
    event_is tuple h numbers output (judge last_channel sets_df site d) (judged_is sockets last_channel sets_df site transport output d s)

-- what is done with it
done_with : (setup : Setup) (rules : Rules) (tuple : FiveTuple) (numbers : Families ℕ) (h : OuterState) (now : ℕ) (output : Output) (judged : Judged) → judged_as output judged
    → acted setup rules tuple numbers h now judged ≡ data_act (step setup rules h.state now (at_server tuple output)).output
done_with setup rules tuple numbers h now (send_to peer bytes) judged e = ap (acted setup rules tuple numbers h now) e
done_with setup rules tuple numbers h now (send_on channel bytes) judged e = ap (acted setup rules tuple numbers h now) e
done_with setup rules tuple numbers h now (asks r others) judged e = absurd e
done_with setup rules tuple numbers h now (shows peer bytes) judged e = absurd e
done_with setup rules tuple numbers h now nothing judged e = absurd e

-- what the law of a server's datagrams says of its state
abbrev pub IsRun : Type 0
IsRun = (setup : Setup) (moments : List Moment) → (kept setup moments).state ≡ run setup (inner_run setup (events_in setup moments))

pub carried_on : AreOfEndpoints → IsRun → (setup : Setup) (rules : Rules) (there : List Moment) (since earlier : List Timed) (site : Site) (transport : TransportType) (tuple : FiveTuple) (user : ℕ) (numbers : Families ℕ)
    (relayed : Endpoint) (now : ℕ) (output : Output) (d : List ℕ) (peer : Endpoint) (bytes : List ℕ)
    → inner_run setup (events_in setup there) ≡ since ++ earlier → Sends transport output d → IsRelayed setup since earlier rules tuple user relayed now peer bytes output
    → IsCarriedOn setup rules there since earlier site tuple user numbers relayed now d peer bytes
carried_on sockets runs setup rules there since earlier site transport tuple user numbers relayed now output d peer bytes same s is =
    let state : (kept setup there).state ≡ run setup (since ++ earlier) = runs setup there ∙ ap (run setup) same in
    record {
      number = is.number;
      socket = is.socket;
      acts = done_with setup rules tuple numbers (kept setup there) now output (judge setup.last_channel setup.supports_dont_fragment site d)
          (judged_is sockets setup.last_channel setup.supports_dont_fragment site transport output d s)
          ∙ ap (λ (x : State). data_act (step setup rules x now (at_server tuple output)).output) state
          ∙ ap data_act is.sent;
    }

-- ---- From the server

pub given_event : AreOfEndpoints → (dealing : Dealing) (request : Option Asked) (from : Endpoint) (number protocol : ℕ) (output : ServerOutput) (d : List ℕ) → Gives output d → IsTo protocol output → IsTransported dealing.transport protocol
    → event_heard from number (hears dealing request d) ≡ at_client from output
given_event sockets dealing request from number protocol (to_client tuple peer bytes) d (is, short, (id, small, fits, text)) to same =
    ap (λ (t : List ℕ). event_heard from number (hears dealing request t)) text ∙ ap (event_heard from number) (given_heard sockets dealing request id peer bytes small is short (subst Fits text fits))
given_event sockets dealing request from number protocol (to_client_on tuple channel bytes) d (is, short, (id, peer, text)) to same =
    ap (λ (t : List ℕ). event_heard from number (hears dealing request t)) text
    ∙ ap (event_heard from number) (channel_heard dealing request tuple channel bytes is short (subst (IsTransported dealing.transport) (sym to) same))
given_event sockets dealing request from number protocol (answers tuple answer) d g to same = absurd g
given_event sockets dealing request from number protocol (to_peer n peer df bytes) d g to same = absurd g
given_event sockets dealing request from number protocol (to_client_icmp tuple peer icmp) d g to same = absurd g
given_event sockets dealing request from number protocol no_output d g to same = absurd g

-- ---- At a client

pub heard_at : (client : Client) (server : Endpoint) (d : List ℕ) → client.held.settings.server ≡ server → event_at client server d ≡ event_heard server (free_number client.kept) (hears (dealing client) (awaited client d) d)
heard_at client server d is =
    cond-true (is_endpoint server client.held.settings.server) _ (strays server)
    (ap (is_endpoint server) is ∙ endpoint_is_itself server)

pub brought_event : AreOfEndpoints → IsRun → (client : Client) (moments : List ClientMoment) (setup : Setup) (rules : Rules) (there : List Moment) (events : List Timed) (number now protocol : ℕ) (peer : Endpoint) (bytes d : List ℕ)
    → inner_run setup (events_in setup there) ≡ events → IsTransported client.transport protocol → IsBrought protocol (brought_by setup rules there number now peer bytes) d
    → let server = client.held.settings.server in event_at (after_all client moments) server d ≡ at_client server (output_of setup events now rules (arrives number peer bytes))
brought_event sockets runs client moments setup rules there events number now protocol peer bytes d same over is =
    let server = client.held.settings.server in
    let after = after_all client moments in
    let output = brought_by setup rules there number now peer bytes in
    let state : (kept setup there).state ≡ run setup events = runs setup there ∙ ap (run setup) same in
    heard_at after server d (ap (λ (s : Settings). s.server) (settings_stay client moments))
    ∙ given_event sockets (dealing after) (awaited after d) server (free_number after.kept) protocol output d is.gives is.to
    (subst (λ (t : TransportType). IsTransported t protocol) (sym (transport_stays client moments)) over)
    ∙ ap (λ (s : State). at_client server (step setup rules s now (arrives number peer bytes)).output) state
