use Rattle.turn_sessions.proofs.RequestsLemmas.{open_of, open_refused, requests_read, signed_of}
use Rattle.turn_sessions.proofs.laws.requests.requests_are_read.Goals as goal

pub returns-clause-signed : goal.returns-clause-signed
returns-clause-signed c = requests_read c.sockets_are_of_endpoints.ensures c.login_is_accepted.ensures.accepted

pub returns-clause-unsigned : goal.returns-clause-unsigned
returns-clause-unsigned c = open_refused c.shown_is_found.ensures.first c.shown_is_found.ensures.missing

pub returns-clause-known : goal.returns-clause-known
returns-clause-known c = signed_of

pub returns-clause-known_unsigned : goal.returns-clause-known_unsigned
returns-clause-known_unsigned c = open_of
