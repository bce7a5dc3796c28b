use Rattle.aiger_io.proofs.CleanLemmas.{text_clean, text_short, text_few, text_formed}
use Rattle.aiger_io.proofs.Format.SettledLemmas.{answer_library, answer_refusal, one_reading, library_read, text_runs_of}
use Rattle.aiger_io.proofs.read_text.read_aag.Goals as goal

pub returns-clause-library : goal.returns-clause-library
returns-clause-library c = answer_library c.args.text.now c.library_of_text.result c.requires c.library_of_text.ensures.library

pub returns-clause-refusal : goal.returns-clause-refusal
returns-clause-refusal c = answer_refusal c.args.text.now c.library_of_text.result c.requires c.library_of_text.ensures.refusal

pub returns-clause-one_reading : goal.returns-clause-one_reading
returns-clause-one_reading c = one_reading c.args.text.now c.requires

pub returns-clause-runs : goal.returns-clause-runs
returns-clause-runs c library made = text_runs_of c.args.text.now library c.requires made

pub returns-clause-well_formed : goal.returns-clause-well_formed
returns-clause-well_formed c library made = text_formed c.args.text.now c.requires library (library_read c.args.text.now library made)

pub returns-clause-clean : goal.returns-clause-clean
returns-clause-clean c library made = text_clean c.args.text.now c.requires library (library_read c.args.text.now library made)

pub returns-clause-few : goal.returns-clause-few
returns-clause-few c library made = text_few c.args.text.now library (library_read c.args.text.now library made)

pub returns-clause-short : goal.returns-clause-short
returns-clause-short c library made = text_short c.args.text.now c.requires library (library_read c.args.text.now library made)
