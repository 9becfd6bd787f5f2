-- What the laws of a rule set are proved by, in one place.
pub use Rattle.vx_fn.proofs.Monotone.{narrower_refl}
pub use Rattle.vx_fn.proofs.Rows.{fn_type-found, fn_type-only}
pub use Rattle.vx_tree.proofs.Trees.{value-fits, each_passes}
pub use Rattle.vx_tree.proofs.Children.{first_quiet, rest_quiet, children_quiet}
pub use Rattle.vx_rewrite_core.proofs.Children.{only_quiet, second_quiet, third_quiet, IsChild, child-well_typed, child-over, child-quiet}
pub use Rattle.vx_rewrite_core.proofs.Inside.{each_inside, below_inside, child-inside}
pub use Rattle.vx_rewrite_core.proofs.Sets.{modest_stays_normal, modest_lawful, decided_functional, one_normal_form, either_normal, either_functional, either_modest, either_lawful}
pub use Rattle.vx_rewrite_core.proofs.Casts.{keeps_as_type, as_type-weight, as_type-from, as_type-is, is-as_type}
pub use Rattle.vx_rewrite_core.proofs.Cases.{CaseTyped, case_typed, first_narrower, OthersTyped, others_typed, else_narrower, null_fits}
pub use Rattle.vx_rewrite_core.proofs.Literals.{literal_shape}
pub use Rattle.vx_rewrite_core.proofs.Counted.{not_one, not_two, not_three, fewer_than_two}
pub use Rattle.vx_rewrite_core.proofs.Answering.{answer_gives, answer_refuses, second_gives}
