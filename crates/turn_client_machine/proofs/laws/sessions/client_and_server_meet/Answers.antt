use Rattle.std.proofs.Common.{refl}
use Rattle.turn_client_machine.proofs.laws.sessions.client_and_server_meet.Goals as goal

pub returns-clause-to_permitted : goal.returns-clause-to_permitted
returns-clause-to_permitted c = λ bytes. refl

pub returns-clause-to_channel : goal.returns-clause-to_channel
returns-clause-to_channel c = λ bytes. refl

pub returns-clause-from_permitted : goal.returns-clause-from_permitted
returns-clause-from_permitted c = λ bytes. refl

pub returns-clause-from_channel : goal.returns-clause-from_channel
returns-clause-from_channel c = λ bytes. refl

pub returns-clause-to_later : goal.returns-clause-to_later
returns-clause-to_later c = λ bytes. refl

pub returns-clause-to_channel_later : goal.returns-clause-to_channel_later
returns-clause-to_channel_later c = λ bytes. refl

pub returns-clause-from_later : goal.returns-clause-from_later
returns-clause-from_later c = λ bytes. refl

pub returns-clause-channel : goal.returns-clause-channel
returns-clause-channel c = λ bytes. refl

pub returns-clause-no_channel : goal.returns-clause-no_channel
returns-clause-no_channel c = λ bytes. refl

pub returns-clause-silence : goal.returns-clause-silence
returns-clause-silence c = λ bytes. refl
