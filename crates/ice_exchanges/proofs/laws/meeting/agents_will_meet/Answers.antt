use Rattle.ice_exchanges.specs.Meetings.{in_machines, machines}
use Rattle.ice_exchanges.proofs.MeetingLemmas.{are_meeting, have_met}
use Rattle.ice_exchanges.proofs.laws.meeting.agents_will_meet.Goals as goal

pub returns : goal.returns
returns c = λ m both count due tried wait most j n is starting soon few one other late.
    let sockets = c.sockets_are_of_endpoints.ensures in
    let authentic = c.events_are_authentic.ensures.judged in
    have_met sockets authentic m both n is
    (c.agents_will_meet.ensures.start (in_machines m both) (machines both) count due tried wait most j n (are_meeting sockets authentic m both is) starting soon few one other late)
