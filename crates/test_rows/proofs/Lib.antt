mod Common
mod TextExamples
mod JobExamples
mod CommandExamples
