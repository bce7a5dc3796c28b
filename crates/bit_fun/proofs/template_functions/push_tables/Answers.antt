use Rattle.bit_fun.proofs.Lemmas.{◌≡◌, ◌∙◌, ◌+◌, ◌++◌, List, Bool, false, length-replicate, ◌∷◌, drop, length, take, ap, subst, sym, arith, mark_of, ◌^◌, AreFree, Lit, Lut, HasRoom, IsTableWithin, IsBetween, AreBitsMade, AreTablesMadeTo, no_tables, none_kept, one_table_more, table_room, written_back, clear_marks, count_work}
use Rattle.list_laws.proofs.Items.{member_at, drop_at}
use Rattle.bit_fun.proofs.template_functions.push_tables.Goals as goal

pub free_nodes-requires : goal.free_nodes-requires
free_nodes-requires c = λ t m i j. (c.requires.tables t i).kinds m j

pub loop-table-init : goal.loop-table-init
loop-table-init c = record {
  so_far =
      subst (λ (xs : List Lit). AreTablesMadeTo c.args.graph.now c.in_ok-free.free.items c.args.tables.now c.args.tables.now c.args.pack.now c.args.pack.now c.in_ok-kept.kept.items c.args.lits.now xs) (sym c.new-bits.ensures.items)
      (no_tables c.args.graph.now c.in_ok-free.free.items c.args.tables.now c.args.pack.now c.in_ok-kept.kept.items c.args.lits.now (count_work c.args.graph.now c.args.tables.now c.in_ok-free.free.items c.in_ok-free.ensures.only c.in_ok-free.ensures.all c.requires.light) c.requires.room (record {
        literals = c.requires.literals;
        sources = c.requires.sources;
        keeps = none_kept c.args.graph.now c.args.tables.now c.args.pack.now c.in_ok-kept.kept.items c.args.lits.now (λ n. ap (λ (ms : List Bool). mark_of ms n) (c.in_ok-kept.ensures.items_if_clones_equal (λ y h. h)) ∙ clear_marks _ n);
      }));
  count = c.requires.count;
  long = ap length (c.in_ok-kept.ensures.items_if_clones_equal (λ y h. h)) ∙ length-replicate _ false ∙ c.len.ensures.count;
}

pub push_table-requires-clause-table : goal.push_table-requires-clause-table
push_table-requires-clause-table c = c.requires.tables c.table-item.result (member_at c.args.tables.now c.loop-table.table-index c.table-item.result (omega arith) c.table-item.is)

pub push_table-requires-clause-room : goal.push_table-requires-clause-room
push_table-requires-clause-room c =
    let t : Lut = c.table-item.result in
    let next : drop c.loop-table.table-index c.args.tables.now ≡ t ∷ drop (c.loop-table.table-index + 1) c.args.tables.now = drop_at c.args.tables.now c.loop-table.table-index t (omega arith) c.table-item.is in
    let room : HasRoom c.args.graph.now c.in_ok-free.free.items t c.loop-table.kept.items c.loop-table.pack =
    table_room c.args.graph.now c.in_ok-free.free.items c.args.tables.now t _ c.args.pack.now c.loop-table.pack c.loop-table.kept.items c.loop-table.lits c.loop-table.bits.items
    (subst (λ (ls : List Lut). AreTablesMadeTo c.args.graph.now c.in_ok-free.free.items c.args.tables.now ls c.args.pack.now c.loop-table.pack c.loop-table.kept.items c.loop-table.lits c.loop-table.bits.items) next c.loop-table.invariant.so_far) in
    subst (λ (fs : List Bool). HasRoom c.args.graph.now fs t c.deref_mut.result.now c.loop-table.pack) (sym c.deref.ensures.value)
    (subst (λ (ks : List Bool). HasRoom c.args.graph.now c.in_ok-free.free.items t ks c.loop-table.pack) (sym c.deref_mut.ensures.value) room)

pub loop-table-preserved : goal.loop-table-preserved
loop-table-preserved c =
    let t : Lut = c.table-item.result in
    let next : drop c.loop-table.table-index c.args.tables.now ≡ t ∷ drop (c.loop-table.table-index + 1) c.args.tables.now = drop_at c.args.tables.now c.loop-table.table-index t (omega arith) c.table-item.is in
    let long : length c.push_table.new.kept ≡ length c.loop-table.kept.items = c.in_ok-push_table.ensures.long ∙ ap length c.deref_mut.ensures.value in
    let back : take c.loop-table.kept.len (c.push_table.new.kept ++ drop (length c.push_table.new.kept) c.loop-table.kept.items) ≡ c.push_table.new.kept =
    written_back c.push_table.new.kept (drop (length c.push_table.new.kept) c.loop-table.kept.items) c.loop-table.kept.len (c.loop-table.kept.ok.0 ∙ sym long) in
    let so_far : AreTablesMadeTo c.args.graph.now c.in_ok-free.free.items c.args.tables.now (t ∷ drop (c.loop-table.table-index + 1) c.args.tables.now) c.args.pack.now c.loop-table.pack c.loop-table.kept.items c.loop-table.lits c.loop-table.bits.items =
    subst (λ (ls : List Lut). AreTablesMadeTo c.args.graph.now c.in_ok-free.free.items c.args.tables.now ls c.args.pack.now c.loop-table.pack c.loop-table.kept.items c.loop-table.lits c.loop-table.bits.items) next c.loop-table.invariant.so_far in
    let made : AreBitsMade c.args.graph.now c.args.tables.now t 0 (2 ^ length t.leaves) c.loop-table.pack c.loop-table.bits.items c.push_table.new.pack c.push_table.new.kept c.push_table.new.lits c.push_table.new.bits.items =
    c.in_ok-push_table.ensures.made c.args.tables.now (member_at c.args.tables.now c.loop-table.table-index t (omega arith) c.table-item.is)
    (subst (λ (fs : List Bool). AreFree c.args.graph.now c.args.tables.now fs) (sym c.deref.ensures.value) c.in_ok-free.ensures.only)
    (subst (λ (ks : List Bool). IsBetween c.args.graph.now c.args.tables.now c.loop-table.pack ks c.loop-table.lits) (sym c.deref_mut.ensures.value) so_far.between) in
    let within : IsTableWithin c.args.graph.now c.in_ok-free.free.items t c.loop-table.pack c.loop-table.kept.items c.push_table.new.pack c.push_table.new.kept =
    subst (λ (ks : List Bool). IsTableWithin c.args.graph.now c.in_ok-free.free.items t c.loop-table.pack ks c.push_table.new.pack c.push_table.new.kept) c.deref_mut.ensures.value
    (subst (λ (fs : List Bool). IsTableWithin c.args.graph.now fs t c.loop-table.pack c.deref_mut.result.now c.push_table.new.pack c.push_table.new.kept) c.deref.ensures.value c.in_ok-push_table.ensures.few) in
    record {
      so_far =
          subst (λ (ks : List Bool). AreTablesMadeTo c.args.graph.now c.in_ok-free.free.items c.args.tables.now (drop (c.loop-table.table-index + 1) c.args.tables.now) c.args.pack.now c.push_table.new.pack ks c.push_table.new.lits c.push_table.new.bits.items) (sym back)
          (one_table_more c.args.graph.now c.in_ok-free.free.items c.args.tables.now t _ c.args.pack.now c.loop-table.pack c.loop-table.kept.items c.loop-table.lits c.loop-table.bits.items c.push_table.new.pack c.push_table.new.kept c.push_table.new.lits c.push_table.new.bits.items so_far made within);
      count = c.in_ok-push_table.ensures.count ∙ c.loop-table.invariant.count;
      long = ap length back ∙ long ∙ c.loop-table.invariant.long;
    }
