pub mod RightHandSide
