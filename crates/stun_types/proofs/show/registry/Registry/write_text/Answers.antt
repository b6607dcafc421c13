use Rattle.std.proofs.Common.{inr, sym, ◌∙◌, ap}
use Rattle.std.specs.Option.{option_map}
use Rattle.stun_attributes.specs.Raw.{raw_type}
use Rattle.stun_types.specs.Shown.{display_of}
use Rattle.stun_types.proofs.ShownLemmas.{at_some}
use Rattle.stun_types.proofs.show.registry.Registry.write_text.Goals as goal

-- the registered function made a text, and that was written
pub returns-in-Ok : goal.returns-in-Ok
returns-in-Ok g c =
    let found = sym c.printer_of.ensures ∙ ap (λ found. option_map (λ printer. printer.imp) found) c.in-Some.is in
    at_some _ _ (display_of c.args.self.now (raw_type c.args.raw.now)) c.in-Some.printer.imp (rw (← c.get_type.ensures) found) (inr (_, c.in-Ok.ensures, rw (← c.deref.ensures) c.write_made.ensures))
