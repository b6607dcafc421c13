use Rattle.std.proofs.Common.{rules, ◌≡◌, Err, refl}
use Rattle.std.specs.Fmt.{fmt_error}
use Rattle.stun_types.proofs.show.printer.Printer.text.Goals as goal

-- the call accepted, and left the text
pub returns : goal.returns
returns g c = record { called = c.in_ok-imp.ensures.0; alloc = c.args.alloc; borrowed = c.args.raw; empty = _; full = _; borrowed_is = refl; empty_is = c.new-text.ensures.bytes; full_is = refl }

-- the call refused
pub returns-in_err-imp : goal.returns-in_err-imp
returns-in_err-imp g c =
    let is : c.from_residual.result ≡ Err fmt_error = search rules in
    rw is (_, record { called = c.in_err-imp.ensures.0; alloc = c.args.alloc; borrowed = c.args.raw; empty = _; full = _; borrowed_is = refl; empty_is = c.new-text.ensures.bytes; full_is = refl })
