-- What the standard rules promise.
use Rattle.vx_rewrite_core.specs.FromSubterms.{FromSubterms}
use Rattle.vx_rewrite_core.specs.Sets.{Keeping, Lightening, StayingNormal, Functional, DecidedBy}
use Rattle.vx_rewrite_rule_laws.specs.Rules.{RuleAt}
use Rattle.vx_rewrite_rule_laws.specs.StandardGiven.{given_at}

-- what is given keeps the tree at which it is given
abbrev pub RulesKeep : Type 0
RulesKeep = Keeping RuleAt

-- what is given is lighter
abbrev pub RulesLighten : Type 0
RulesLighten = Lightening RuleAt

-- what is normal below the root stays so
abbrev pub RulesStayNormal : Type 0
RulesStayNormal = StayingNormal RuleAt

-- each new child stood below the root, or is a literal, at which nothing is given
abbrev pub RulesAreModest : Type 0
RulesAreModest = FromSubterms RuleAt

-- at most one tree is given at a node
abbrev pub RulesAreFunctional : Type 0
RulesAreFunctional = Functional RuleAt

-- what is given is what the rules as a function say
abbrev pub RulesAreDecided : Type 0
RulesAreDecided = DecidedBy RuleAt given_at
