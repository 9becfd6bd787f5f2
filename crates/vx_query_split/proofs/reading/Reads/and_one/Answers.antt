use Rattle.std.proofs.Common.{◌≡◌, rules, true}
use Rattle.std.specs.Str.{bytes_eq}
use Rattle.vx_query_split.specs.Reads.{IsReadBy}
use Rattle.vx_query_split.specs.declared.reading.Reads.TheVariants.{One, Several}
use Rattle.vx_query_split.proofs.Names.{not_empty, one_twice, several_second, some_name}
use Rattle.vx_query_split.proofs.reading.Reads.and_one.Goals as goal

pub returns-then-eq : goal.returns-then-eq
returns-then-eq c = λ xs ys one other.
    let is : c.args.self ≡ One c.in-One.own = search rules in
    let same : bytes_eq c.args.name.now c.in-One.own.now ≡ true = search rules in
    one_twice xs ys c.args.name.now c.in-One.own.now one (rw is at other) same

pub returns-in-Several : goal.returns-in-Several
returns-in-Several c = λ xs ys one other.
    let is : c.args.self ≡ Several = search rules in
    let more : IsReadBy Several ys = rw is at other in
    (several_second xs ys c.args.name.now one more.0 more.1, not_empty xs ys (some_name xs c.args.name.now one))
