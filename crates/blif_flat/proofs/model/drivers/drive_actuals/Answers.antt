use Rattle.blif_flat.proofs.Lemmas.{◌≡◌, ◌+◌, List, [], ◌∷◌, ◌++◌, drop, ap, sym, ◌∙◌, Connection, twice_in, output_actuals, passed_on, drive_split, names_split, told, gone_on}
use Rattle.blif_flat.proofs.model.drivers.drive_actuals.Goals as goal

pub returns-in_err-drive_actual : goal.returns-in_err-drive_actual
returns-in_err-drive_actual c = λ child p. passed_on c.from_residual.result c.in_err-drive_actual.field-0.0 _ _ c.from_residual.ensures.1
    (told c.in_err-drive_actual.field-0.0 _ _ _ _ (drive_split child c.args.site.now.model.now c.args.site.now.line c.loop-pair.driven c.args.pairs.now c.loop-pair.pair-index c.pair-item.result c.loop-pair-test.true c.pair-item.is)
    (c.loop-pair.invariant child p).0 (c.in_err-drive_actual.ensures child p))

pub loop-pair-preserved : goal.loop-pair-preserved
loop-pair-preserved c = λ child p.
    let new : c.drive_actual.new.driven ≡ c.loop-pair.driven ++ output_actuals child (c.pair-item.result ∷ []) = (c.in_ok-drive_actual.ensures child p).1 in
    let rest : List Connection = drop (c.loop-pair.pair-index + 1) c.args.pairs.now in (
      ap (λ d. twice_in c.args.site.now.model.now c.args.site.now.line d (output_actuals child rest)) new
          ∙ gone_on _ _ _ _ (drive_split child c.args.site.now.model.now c.args.site.now.line c.loop-pair.driven c.args.pairs.now c.loop-pair.pair-index c.pair-item.result c.loop-pair-test.true c.pair-item.is)
          (c.loop-pair.invariant child p).0 (c.in_ok-drive_actual.ensures child p).0,
      ap (λ d. d ++ output_actuals child rest) new
          ∙ sym (names_split child c.loop-pair.driven c.args.pairs.now c.loop-pair.pair-index c.pair-item.result c.loop-pair-test.true c.pair-item.is)
          ∙ (c.loop-pair.invariant child p).1,
    )
