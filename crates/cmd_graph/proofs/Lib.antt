mod Common
mod ExportLemmas
mod GraphJobLemmas
