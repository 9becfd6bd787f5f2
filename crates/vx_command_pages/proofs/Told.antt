-- A refusal of what the texts are read as is an error of a command that is given them.
use Rattle.std.proofs.Common.{ℕ, List, Result, Ok, Err}
use Rattle.std.specs.Prelude.{IfErr}
use Rattle.vx_value.specs.Types.{LogicalType}
use Rattle.vx_source_parser.specs.Placed.{tree_in}
use Rattle.vx_source_parser.specs.declared.whole.Placed.{Placed}
use Rattle.vx_command_pages.specs.declared.error.CommandError.{CommandError}
use Rattle.vx_command_pages.specs.declared.error.CommandError.TheVariants.{OutOfMemory, UnreadExpression, UnreadSchema, Unfit, Refused}
use Rattle.vx_command_pages.specs.Inputs.{ReadsAs, ReadsType, IsRefusal, IsCommandError}
use Rattle.vx_command_pages.specs.Spans.{IsRefusalAt}

pub told : (text schema : List ℕ) (placed : Placed) (s : LogicalType) (c : CommandError)
    → ReadsAs text s (tree_in placed) → ReadsType schema s → IsRefusal (tree_in placed) s c → IsRefusalAt placed s c → IsCommandError text schema c
told text schema placed s OutOfMemory reads typed refusal place = tt
told text schema placed s (UnreadExpression at expected) reads typed refusal place = absurd refusal
told text schema placed s (UnreadSchema at expected) reads typed refusal place = absurd refusal
told text schema placed s (Unfit literal) reads typed refusal place = absurd refusal
told text schema placed s (Refused span refusal remedy) reads typed is place = (placed, s, reads, typed, (is, place))

-- so where a call over what was read hands it on
pub handed_on : {A : Type 0} (text schema : List ℕ) (placed : Placed) (s : LogicalType) (r : Result A CommandError)
    → ReadsAs text s (tree_in placed) → ReadsType schema s → IfErr r (λ c. IsRefusal (tree_in placed) s c) → IfErr r (λ c. IsRefusalAt placed s c) → IfErr r (λ c. IsCommandError text schema c)
handed_on text schema placed s (Ok x) reads typed is place = tt
handed_on text schema placed s (Err c) reads typed is place = told text schema placed s c reads typed is place
