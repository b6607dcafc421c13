use Rattle.std.proofs.Common.{rules, inl, inr, refl, sym, ◌∙◌, ap}
use Rattle.std.specs.Option.{option_map}
use Rattle.stun_attributes.specs.Raw.{raw_type}
use Rattle.stun_types.specs.Shown.{display_of}
use Rattle.stun_types.proofs.ShownLemmas.{at_some}
use Rattle.stun_types.proofs.show.registry.Registry.show.Goals as goal

-- the registered function made a text, and that was written
pub returns-in_ok-text-in-Some : goal.returns-in_ok-text-in-Some
returns-in_ok-text-in-Some g c =
    let found = sym c.printer_of.ensures ∙ ap (λ found. option_map (λ printer. printer.imp) found) c.in-Some.is in
    at_some _ _ (display_of c.args.self.now (raw_type c.args.raw.now)) c.in-Some.printer.imp (rw (← c.get_type.ensures) found) (inr (_, c.in_ok-text-in-Some.ensures, rw (← c.deref.ensures) c.write_str.ensures.writes))

pub returns-in_err-text-in-Some : goal.returns-in_err-text-in-Some
returns-in_err-text-in-Some g c =
    let found = sym c.printer_of.ensures ∙ ap (λ found. option_map (λ printer. printer.imp) found) c.in-Some.is in
    at_some _ _ (display_of c.args.self.now (raw_type c.args.raw.now)) c.in-Some.printer.imp (rw (← c.get_type.ensures) found) (inl (_, c.in_err-text-in-Some.ensures.1, search rules, refl))
