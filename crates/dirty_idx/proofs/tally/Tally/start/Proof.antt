-- A new number is 0.
use Rattle.dirty_idx.proofs.Common.{[], ◌∷◌, refl, proved}
use seplogic.Ra.Ura.{Ura}
use mir.Val.{Val, vstruct, vcons, vnil}
use base.Logic.{ent, emp}
use base.Fml.{ftrue}
use types.Logic.{Logic, sem}
use contract.Running.{tables}
use types.Kit.{‵, raw, ◌$◌, ◌∵◌, !, qed, done, keep, fjoin, suffices, group, use0}
use types.Run.{enter, no_more, and_then, returns}
use types.ByLocal.{alloc_all, pass_all, free_all, look_at, get, sets}
use types.Part.{agg}
use denote.Builtin.{unit}
use denote.RattleType.{RattleType}
use denote.Shadow.{makes_shadow}
use denote.Struct.Struct.{Struct}
use Rattle.std.specs.contracts.marker.PhantomData as marker
use denote.Steps.{nothing}
use denote.Triple.Entry.{on_entry}
use denote.Triple.Walked.{Stays, walk_of, says, ends_at}
use Rattle.dirty_idx.specs.contracts.tally.Tally.start as f
use Rattle.dirty_idx.specs.contracts.tally.Tally as tally
use Rattle.dirty_idx.proofs.tally.Tally.start.Statement.{statement}
use Rattle.dirty_idx.proofs.tally.Tally.start.Code as code

abbrev token : Val
token = vstruct (vcons (vstruct vnil) vnil)

-- what the fields alone own: nothing
abbrev Fields : RattleType
Fields = Struct (record { name = tally.the_type.name; args = []; types = []; fields = (marker.the_field unit).row ∷ [] })

made : {M : Type 1} {𝓤 : Ura M} (𝓛 : Logic 𝓤) → ent 𝓤 (emp 𝓤) (sem 𝓛 (Fields.own_val (tt, tt) (token ∷ [])))
made 𝓛 = makes_shadow 𝓛 (Fields.own_val (tt, tt) (token ∷ [])) (λ vss. (tt, ((λ uss. (tt, tt)), tt))) ((vstruct vnil ∷ [], tt), (refl, ((tt, (refl, tt)), tt)))

abbrev stayed : Stays f.ended.signature.params f.ended.kept
stayed = tt

pub start_spec : {M : Type 1} → statement M
start_spec 𝓤 𝓛 𝓜 𝓡 wired =
    let c = f.clauses 𝓛 𝓜.mem 𝓡.returns in let W = walk_of 𝓛 f.ended stayed c in let 𝓣 = tables 𝓤 𝓛.H 𝓜 𝓡 𝓡.env in
    proved 𝓛 f.ended stayed c 𝓜 𝓡 tt
    f.Key.name code.function (code.unfolded 𝓤 𝓛.H 𝓜 𝓡 wired)
    (λ κs. tt) (λ κs. tt) (λ κs qs bounds a _ are.
    let y : W.Ghost = ((κs, qs, bounds, a, tt), tt) in
    qed 𝓛 (raw (on_entry 𝓛 f.signature κs qs a y.0.4) ∷ ‵ ftrue ∷ []) ∵ keep ! [] $
    enter ! _ _ _ _ _ $ alloc_all ! (λ l. pass_all ! refl tt $
    sets ! (agg ! (no_more !)) refl (tt, tt) $ sets ! (agg ! (and_then ! (get ! refl) (no_more !))) refl (tt, (tt, tt)) $
    returns ! (look_at ! 0 refl) $ free_all ! refl $
    suffices ! _ (ends_at 𝓛 f.ended stayed c y token record { marker = record {}; total = 0 } tt tt) $ says ! refl $
    nothing ! $ use0 𝓛 (‵ (Fields.own_val (tt, tt) (token ∷ []))) (made 𝓛) $ fjoin ! $
    nothing ! $ nothing ! $ group ! 3 $ done !))
