use Rattle.std.proofs.Common.{◌≡◌, Some, sym, subst}
use Rattle.stun_grammar.specs.Headers.{header_fault}
use Rattle.stun_framing.proofs.FramingLemmas.{begins_whole_header, begins_refused, begins_cut}
use Rattle.stun_framing.proofs.fault.may_begin.Goals as goal

pub returns-in-Ok : goal.returns-in-Ok
returns-in-Ok c = sym (begins_whole_header c.args.bytes.now c.in-Ok.ensures)

pub returns-in-NotStun : goal.returns-in-NotStun
returns-in-NotStun c = sym (begins_refused c.args.bytes.now (subst (λ e. header_fault c.args.bytes.now ≡ Some e) c.in-NotStun.is c.in-Err.ensures))

pub returns-in_default : goal.returns-in_default
returns-in_default c = sym (begins_cut c.args.bytes.now c.in-Err.refused c.in-Err.ensures c.in_default.not-NotStun)
