-- The report of bytes, and how a run ends that writes it.
use Rattle.std.proofs.Common.{◌≡◌, ℕ, List, [], ◌++◌, Option, Some, None, refl, sym, ap, ◌∙◌}
use Rattle.std.specs.List.{flat_map}
use Rattle.stun_grammar.specs.declared.error.StunParseError.{StunParseError}
use Rattle.stun_grammar.specs.Parsing.{parse_fault}
use Rattle.stun_grammar.specs.Showing.{shown}
use Rattle.stun_base.specs.MessageTypes.{Header, header_of}
use Rattle.stun_show.specs.declared.report.RunEnd.TheVariants.{Refused}
use Rattle.stun_show.specs.Report.{header_line, attribute_line, refusal_line, integrity_lines, end_of_message, report, end_of}

pub report-message : (d : List ℕ) (password : Option (List ℕ)) → parse_fault d ≡ None → report d password ≡ header_line (header_of d) ++ flat_map attribute_line (shown d) ++ integrity_lines d password
unfolding report
report-message d password e = rw e refl

pub report-refusal : (d : List ℕ) (password : Option (List ℕ)) (reported : StunParseError) → parse_fault d ≡ Some reported → report d password ≡ refusal_line reported
unfolding report
report-refusal d password reported e = rw e refl

pub end_of-message : (d : List ℕ) (password : Option (List ℕ)) → parse_fault d ≡ None → end_of d password ≡ end_of_message d password
unfolding end_of
end_of-message d password e = rw e refl

pub end_of-refusal : (d : List ℕ) (password : Option (List ℕ)) (reported : StunParseError) → parse_fault d ≡ Some reported → end_of d password ≡ Refused
unfolding end_of
end_of-refusal d password reported e = rw e refl

-- the report of a message, line by line
pub made_report : (d bytes : List ℕ) (password : Option (List ℕ)) (header : Header) (empty first second all : List ℕ) → parse_fault d ≡ None → header ≡ header_of d → bytes ≡ d
    → empty ≡ [] → first ≡ empty ++ header_line header → second ≡ first ++ flat_map attribute_line (shown bytes) → all ≡ second ++ integrity_lines bytes password → all ≡ report d password
made_report d bytes password header empty first second all parsed header-is bytes-is empty-is first-is second-is all-is =
    let line : first ≡ header_line (header_of d) = first-is ∙ ap (λ (b : List ℕ). b ++ header_line header) empty-is ∙ ap header_line header-is in
    let lines : second ≡ header_line (header_of d) ++ flat_map attribute_line (shown d) =
    second-is ∙ ap (λ (b : List ℕ). b ++ flat_map attribute_line (shown bytes)) line ∙ ap (λ (b : List ℕ). header_line (header_of d) ++ flat_map attribute_line (shown b)) bytes-is in
    all-is ∙ ap (λ (b : List ℕ). b ++ integrity_lines bytes password) lines ∙ ap (λ (b : List ℕ). (header_line (header_of d) ++ flat_map attribute_line (shown d)) ++ integrity_lines b password) bytes-is
    ∙ sym (report-message d password parsed)
