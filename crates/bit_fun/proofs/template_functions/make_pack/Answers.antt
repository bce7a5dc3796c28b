use Rattle.bit_fun.proofs.Common.{◌≡◌, ◌∙◌, List, ap, subst, sym, In, Aig, first_and, AreNormal, Lut, PackParam, PackValue, IsPack, HasAllTables, IsPackOf}
use Rattle.cover_pick.specs.Template.{TemplateValue}
use Rattle.bit_fun.proofs.PackLemmas.{table_in, pack_of, pack_kept}
use Rattle.bit_fun.proofs.template_functions.make_pack.Goals as goal

pub push_tables-requires-clause-tables : goal.push_tables-requires-clause-tables
push_tables-requires-clause-tables c =
    let tables : c.as_slice-tables.result.now ≡ c.args.template.now.luts = c.as_slice-tables.ensures.value ∙ ap (λ (v : TemplateValue). v.luts) c.template.view_is in
    λ t i. table_in c.args.graph.now c.args.template.now.luts t c.requires.mapped (subst (λ (ls : List Lut). In ls t) tables i)

pub make-requires-2 : goal.make-requires-2
make-requires-2 c =
    let tables : c.as_slice-tables.result.now ≡ c.args.template.now.luts = c.as_slice-tables.ensures.value ∙ ap (λ (v : TemplateValue). v.luts) c.template.view_is in
    subst (λ (ps : List PackParam). IsPack ps c.push_tables.new.pack c.in_ok-bits.bits.items) (sym c.in_ok-pack_params.ensures)
    (pack_kept c.args.graph.now c.args.template.now.luts c.args.params.now.list c.in_ok-pack.pack c.push_tables.new.pack c.push_tables.new.lits c.in_ok-bits.bits.items c.requires.mapped c.requires.light c.requires.count c.requires.names
    (ap (λ (g : Aig). g.kinds) c.in_ok-pack.ensures) (ap (λ (g : Aig). g.pairs) c.in_ok-pack.ensures) (ap (λ (g : Aig). g.max) c.in_ok-pack.ensures)
    (subst (λ (ls : List Lut). HasAllTables c.args.graph.now ls c.in_ok-pack.pack c.push_tables.new.pack c.push_tables.new.lits c.in_ok-bits.bits.items) tables c.in_ok-bits.ensures))

pub returns-clause-pack : goal.returns-clause-pack
returns-clause-pack c =
    let tables : c.as_slice-tables.result.now ≡ c.args.template.now.luts = c.as_slice-tables.ensures.value ∙ ap (λ (v : TemplateValue). v.luts) c.template.view_is in
    subst (λ (p : PackValue). IsPackOf c.args.graph.now c.args.template.now.luts c.args.params.now.list p)
    (sym (c.make-2.ensures ∙ ap (λ ps. record { params = ps; graph = c.push_tables.new.pack; bits = c.in_ok-bits.bits.items }) c.in_ok-pack_params.ensures))
    (pack_of c.args.graph.now c.args.template.now.luts c.args.params.now.list c.in_ok-pack.pack c.push_tables.new.pack c.push_tables.new.lits c.in_ok-bits.bits.items (ap (λ (g : Aig). g.kinds) c.in_ok-pack.ensures)
    (ap (λ (g : Aig). g.pairs) c.in_ok-pack.ensures)
    (subst (λ (ls : List Lut). HasAllTables c.args.graph.now ls c.in_ok-pack.pack c.push_tables.new.pack c.push_tables.new.lits c.in_ok-bits.bits.items) tables c.in_ok-bits.ensures))

pub returns-clause-kept : goal.returns-clause-kept
returns-clause-kept c =
    let tables : c.as_slice-tables.result.now ≡ c.args.template.now.luts = c.as_slice-tables.ensures.value ∙ ap (λ (v : TemplateValue). v.luts) c.template.view_is in
    subst (λ (p : PackValue). IsPack p.params p.graph p.bits) (sym c.make-2.ensures)
    (subst (λ (ps : List PackParam). IsPack ps c.push_tables.new.pack c.in_ok-bits.bits.items) (sym c.in_ok-pack_params.ensures)
    (pack_kept c.args.graph.now c.args.template.now.luts c.args.params.now.list c.in_ok-pack.pack c.push_tables.new.pack c.push_tables.new.lits c.in_ok-bits.bits.items c.requires.mapped c.requires.light c.requires.count c.requires.names
    (ap (λ (g : Aig). g.kinds) c.in_ok-pack.ensures) (ap (λ (g : Aig). g.pairs) c.in_ok-pack.ensures) (ap (λ (g : Aig). g.max) c.in_ok-pack.ensures)
    (subst (λ (ls : List Lut). HasAllTables c.args.graph.now ls c.in_ok-pack.pack c.push_tables.new.pack c.push_tables.new.lits c.in_ok-bits.bits.items) tables c.in_ok-bits.ensures)))

pub returns-clause-normal : goal.returns-clause-normal
returns-clause-normal c = subst (λ (p : PackValue). AreNormal (first_and p.graph) p.graph.pairs) (sym c.make-2.ensures) c.len-nodes.ensures.normal
