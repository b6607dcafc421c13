use Rattle.std.proofs.Common.{refl}
use Rattle.turn_machine.proofs.laws.sessions.sessions_go_so.Goals as goal

pub returns-clause-session : goal.returns-clause-session
returns-clause-session c = refl

pub returns-clause-flood : goal.returns-clause-flood
returns-clause-flood c = refl

pub returns-clause-closed : goal.returns-clause-closed
returns-clause-closed c = refl

pub returns-clause-reported : goal.returns-clause-reported
returns-clause-reported c = refl

pub returns-clause-dual : goal.returns-clause-dual
returns-clause-dual c = refl

pub returns-clause-requests : goal.returns-clause-requests
returns-clause-requests c = refl

pub returns-clause-data : goal.returns-clause-data
returns-clause-data c = refl

pub returns-clause-icmp : goal.returns-clause-icmp
returns-clause-icmp c = refl

pub returns-clause-flows : goal.returns-clause-flows
returns-clause-flows c = refl

pub returns-clause-channels : goal.returns-clause-channels
returns-clause-channels c = refl

pub returns-clause-channel_flows : goal.returns-clause-channel_flows
returns-clause-channel_flows c = refl

pub returns-clause-held : goal.returns-clause-held
returns-clause-held c = refl

pub returns-clause-held_tokens : goal.returns-clause-held_tokens
returns-clause-held_tokens c = refl
