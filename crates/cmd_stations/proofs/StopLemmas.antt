-- What a stop at a text says: the text's refusal. A file has one content, and is short enough or too long; and what is so of each file that a station reads.
use Rattle.cmd_stations.proofs.Common.{◌≡◌, Option, Some, Result, Ok, Err, sym, subst, IsErrAnd, IfErr, MatchResult, RefusalValue, Stop, Refused, Memory, refusal_of, Stops, ℕ, ◌<◌, ◌≤◌, List, length, ap, ◌∙◌, arith, same_Some, Files, HasBytes, IsOverlong, File, IsPackItself, IsScriptFile, IsOfSource}
use Rattle.tl_fault.specs.OrMemory.{OrMemory}
use Rattle.tl_fault.proofs.OrMemoryLemmas.{or_memory}
use Rattle.cmd_base.specs.declared.outcome.File.TheVariants as file

-- a stop that tells what a layer's error tells
pub stop_by : {E : Type 0} (told_of : E → Option RefusalValue) (P : E → Type 0) (Q : RefusalValue → Type 0) (e : E) (s : Stop) → OrMemory told_of P e → refusal_of s ≡ told_of e
    → ((r : RefusalValue) → told_of e ≡ Some r → P e → Q r) → Stops Q s
stop_by told_of P Q e (Refused r) said is h = h r (sym is) (or_memory told_of P e r said (sym is))
stop_by told_of P Q e Memory said is h = tt

-- the same of the answer that a `?` makes of it
pub passed_stop : {T E : Type 0} (told_of : E → Option RefusalValue) (P : E → Type 0) (Q : RefusalValue → Type 0) (r : Result T Stop) (e : E) → OrMemory told_of P e → IsErrAnd r (λ s. refusal_of s ≡ told_of e)
    → ((told : RefusalValue) → told_of e ≡ Some told → P e → Q told) → IfErr r (Stops Q)
passed_stop told_of P Q (Ok x) e said is h = tt
passed_stop told_of P Q (Err s) e said is h = stop_by told_of P Q e s said is h

pub passed_settled : {T E : Type 0} (told_of : E → Option RefusalValue) (P : E → Type 0) (Q : Type 0) (r : Result T Stop) (e : E) → OrMemory told_of P e → IsErrAnd r (λ s. refusal_of s ≡ told_of e)
    → ((told : RefusalValue) → told_of e ≡ Some told → P e → Q) → MatchResult r (λ _. Q) (Stops (λ _. Q))
passed_settled told_of P Q (Ok x) e said is h = absurd is
passed_settled told_of P Q (Err s) e said is h = stop_by told_of P (λ _. Q) e s said is h

-- what holds anyway
pub settled_anyway : {T : Type 0} {Q : Type 0} (r : Result T Stop) → Q → MatchResult r (λ _. Q) (Stops (λ _. Q))
settled_anyway (Err Memory) q = tt
settled_anyway o q = q

pub stops_anyway : {Q : Type 0} (s : Stop) → Q → Stops (λ _. Q) s
stops_anyway (Refused r) q = q
stops_anyway Memory q = tt

-- the same of the stop that a `?` passes on
pub passed_stops : {T : Type 0} (P Q : RefusalValue → Type 0) (r : Result T Stop) (e : Stop) → IsErrAnd r (λ s. s ≡ e) → ((told : RefusalValue) → P told → Q told) → Stops P e → IfErr r (Stops Q)
passed_stops P Q (Ok v) e is h p = tt
passed_stops P Q (Err s) (Refused told) is h p = subst (λ x. Stops Q x) (sym is) (h told p)
passed_stops P Q (Err s) Memory is h p = subst (λ x. Stops Q x) (sym is) tt

pub passed_settles : {T : Type 0} (P : RefusalValue → Type 0) (Q : Type 0) (r : Result T Stop) (e : Stop) → IsErrAnd r (λ s. s ≡ e) → ((told : RefusalValue) → P told → Q) → Stops P e → MatchResult r (λ _. Q) (Stops (λ _. Q))
passed_settles P Q (Ok v) e is h p = absurd is
passed_settles P Q (Err s) (Refused told) is h p = subst (λ x. Stops (λ _. Q) x) (sym is) (h told p)
passed_settles P Q (Err s) Memory is h p = subst (λ x. Stops (λ _. Q) x) (sym is) tt

pub passed_anyway : {T : Type 0} (P Q : Type 0) (r : Result T Stop) (e : Stop) → IsErrAnd r (λ s. s ≡ e) → (P → Q) → Stops (λ _. P) e → MatchResult r (λ _. Q) (Stops (λ _. Q))
passed_anyway P Q (Ok v) e is h p = absurd is
passed_anyway P Q (Err s) (Refused told) is h p = subst (λ x. Stops (λ _. Q) x) (sym is) (h p)
passed_anyway P Q (Err s) Memory is h p = subst (λ x. Stops (λ _. Q) x) (sym is) tt

-- a file has one content
pub text_once : {most : ℕ} (files : Files) (name xs ys : List ℕ) → HasBytes most files name xs → HasBytes most files name ys → xs ≡ ys
text_once files name xs ys a b = same_Some xs ys (sym a.is ∙ b.is)

-- which isn't too long where it is short enough
pub short_or_long : {most : ℕ} (files : Files) (name xs : List ℕ) → HasBytes most files name xs → IsOverlong most files name → ⊥
short_or_long {most} files name xs a b = grind arith

-- What is so of each file that a station reads: it is shown for these files alone.
module _ (P : File → Type 0) where
  pub of_source : P file.Netlist → P file.Params → (f : File) → IsOfSource f → P f
  of_source netlist params file.Netlist h = netlist
  of_source netlist params file.Params h = params
  of_source netlist params f h = absurd h

  pub of_script : P file.Script → (f : File) → IsScriptFile f → P f
  of_script script file.Script h = script
  of_script script f h = absurd h

  pub of_pack : P file.Pack → (f : File) → IsPackItself f → P f
  of_pack pack file.Pack h = pack
  of_pack pack f h = absurd h
