use Rattle.std.proofs.Common.{◌≡◌, ℕ, List, ◌++◌, ap, ◌∙◌, append_assoc}
use Rattle.std.specs.Prelude.{codes}
use Rattle.stun_text.proofs.Joining.{both, spelled_so}
use Rattle.stun_grammar.specs.Names.{numbered_text}
use Rattle.stun_base.specs.MessageTypes.{class_of, method_of, class_name, id_text}
use Rattle.stun_types.proofs.show.message_printer.print_head.Goals as goal

-- a head of a class, a method and a transaction ID that are printed as these texts
abbrev head_of_texts : List ℕ → List ℕ → List ℕ → List ℕ
head_of_texts class method id = codes "Message(class: " ++ class ++ codes ", method: " ++ method ++ codes ", transaction: " ++ id ++ codes ", attributes: ["

-- its pieces, one after the other
pieces : (class method id : List ℕ) → codes "Message(class: " ++ ((class ++ codes ", method: " ++ method) ++ (codes ", transaction: " ++ (id ++ codes ", attributes: ["))) ≡ head_of_texts class method id
pieces class method id = simp append_assoc

-- the head of a type, the name of its method, and a transaction ID
abbrev head_of : ℕ → List ℕ → ℕ → List ℕ
head_of type name id = head_of_texts (class_name (class_of type)) (numbered_text (method_of type) name) (id_text id)

pub returns : goal.returns
returns g c =
    let wrote = g.S.TextSink.wrote in
    let joins = g.met.S.TextSink.joins in
    let name = g.P.MessagePrinter.name c.args.printer.now in
    let type = c.get_type-mtype.result in
    let id = c.transaction_id.result in
    let named : c.method_name.result.now ≡ name (method_of type) = c.method_name.ensures ∙ ap name c.method.ensures in
    let same : head_of type c.method_name.result.now id ≡ head_of c.args.header.now.type (name (method_of c.args.header.now.type)) c.args.header.now.id =
    ap (λ (l : List ℕ). head_of type l id) named ∙ ap (λ (n : ℕ). head_of n (name (method_of n)) id) c.get_type-mtype.ensures
    ∙ ap (head_of c.args.header.now.type (name (method_of c.args.header.now.type))) c.transaction_id.ensures in
    spelled_so wrote joins same
    (spelled_so wrote joins (pieces (class_name (class_of type)) (numbered_text (method_of type) c.method_name.result.now) (id_text id))
    (both wrote joins c.in_ok-put.ensures (both wrote joins c.in_ok-put_class_and_method.ensures (both wrote joins c.in_ok-put-2.ensures (both wrote joins c.in_ok-print.ensures c.in_ok-put-3.ensures)))))
