pub mod RulesSteps
