-- A job of `graph`: a source circuit that has a graph is accepted, and the circuit of its graph is the verdict's, whole or cut off.
use Rattle.cmd_graph.proofs.Common.{◌≡◌, ◌≤◌, ℕ, List, [], ◌∷◌, Some, subst, Result, string_bytes, Files, ShelfSeen, FileText, writing_outcome, WritesAll, BuiltSource, ComesToGraph, GraphWords, HasExport, HasGraphJob, graph_walk, writing_ends, ◌⊎◌, Option, Ok, Err, emptied, WritesFile, not_begun, IsSourceRefused, IsSourceSettled, IsExport, export_text}
use Rattle.tl_text.specs.declared.logical_lines.TheConstants.{MOST_BYTES}
use Rattle.tl_fault.specs.RefusalValue.{RefusalValue}
use Rattle.tl_io.specs.Port.{PortSeen}
use Rattle.tl_io.specs.Sink.{SinkSeen}
use Rattle.cmd_base.specs.Walk.{outside, Told, IsBegun, Ends, HasLaws}
use Rattle.cmd_base.specs.declared.outcome.File.{File}
use Rattle.cmd_base.specs.declared.outcome.Outcome.{Outcome}
use Rattle.cmd_stations.specs.Mapped.{ToGraph}
use Rattle.cmd_stations.proofs.RefusedLemmas.{refused_unmade, source_refused_once}
use Rattle.cmd_graph.specs.declared.export.Export.{Export}
use Rattle.std.specs.Result.{IsErr}

-- a source circuit whose graph was made is accepted
graph_begun : (files : Files) (words : GraphWords) (b : BuiltSource) → ComesToGraph files words.source b → IsBegun (graph_walk words) files
graph_begun files words b past = record { accepted = record { source = b.source; graph = b.graph; roots = b.roots; has = past.has }; settled = past.settled }

module _ (words : GraphWords) (e : Export) (is : IsExport e) where
  abbrev texts : List FileText
  texts = export_text words.out e ∷ []

  -- a job that came past its graph, and wrote
  module _ (old mid new : ShelfSeen) (same : (out : SinkSeen) (ports : List PortSeen) → outside mid out ports ≡ outside old out ports) (few : mid.given ≤ MOST_BYTES) (given : new.given ≡ mid.given) (comes : Told old.files (λ files. ComesToGraph files words.source e.built))
      (before after : SinkSeen) (ports : List PortSeen) where
    has_export : (files : Files) → old.files ≡ Some files → (P : List FileText → List ℕ → Type 0) → P texts (string_bytes e.line) → HasExport files words P
    has_export files told P ends = record {
      source = e.built.source;
      graph = e.built.graph;
      roots = e.built.roots;
      has = (comes files told).has;
      sound = is.built.read.netlist.sound;
      regular = e.regular.items;
      places = is.places;
      exported = is.exported;
      ends = subst (λ line. P texts line) is.line ends;
    }

    pub graph_ends : {E : Type 0} (r : Result Unit E) → WritesAll texts (string_bytes e.line) (outside mid before ports) (outside new after ports) r → (o : Outcome) → o ≡ writing_outcome r
        → Ends (graph_walk words) old new (outside old before ports) (outside new after ports) o
    graph_ends r all o is = writing_ends ToGraph words.source (λ files. HasGraphJob files words.source) (λ files P. HasExport files words P) texts (string_bytes e.line) old mid new same few given
        (λ files told. graph_begun files words e.built (comes files told)) has_export before after ports r all o is

-- a source circuit that has a graph isn't refused
built_or : (files : Files) (words : GraphWords) → IsSourceSettled ToGraph files words.source → (job : HasGraphJob files words.source) (f : File) (r : RefusalValue) → IsSourceRefused ToGraph files words.source f r → ⊥
built_or files words settled job f r refused =
    (settled.made job.source job.has.has).not_both job.graph job.roots r job.has.built (refused_unmade files words.source settled job.source f r job.has.has refused)

pub graph_laws : (words : GraphWords) → HasLaws (graph_walk words)
graph_laws words = record {
  not_both = λ files settled job f r refused. built_or files words settled job f r refused;
  one_refusal = λ files settled f e r s one other. source_refused_once files words.source settled f e r s one other;
  shows = λ files old new done. tt;
}

-- the answer is an error, and the file is as before or empty
pub not_written : {E : Type 0} (text : FileText) (old new : Option Files) (r : Result Unit E) → IsErr r → (new ≡ old) ⊎ (new ≡ emptied old text.name) → WritesFile text old new r
not_written text old new (Ok done) fails same = absurd (let wrong : ⊥ = cc in wrong)
not_written text old new (Err e) is same = not_begun text old new same
