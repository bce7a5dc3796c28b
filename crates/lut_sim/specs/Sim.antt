-- What a simulator is seen as.
use Rattle.std.specs.Prelude.{Bool, List}
use Rattle.cover_pick.specs.Template.{TemplateValue}
use Rattle.lut_sim.specs.declared.shape.Shape.{Shape}

-- a circuit with the outputs and states of its last cycle
pub record SimValue : Type 0 where
  pub template : TemplateValue
  pub shape : Shape
  pub outputs : List Bool
  pub states : List Bool
