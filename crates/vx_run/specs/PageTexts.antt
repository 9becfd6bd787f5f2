-- The pages of the rows, byte for byte.
use Rattle.std.specs.Prelude.{◌≡◌, codes, encode_utf8_all}
use Rattle.vx_run.specs.Pages.{page_of}
use Rattle.vx_run.specs.declared.row.Row.TheVariants.{Kleene, Coalesce, Cases, Fused, Branches, Scan}

-- the page of `kleene`
abbrev pub KleenePageIs : Type 0
KleenePageIs = page_of Kleene ≡ encode_utf8_all (codes "text: (($.x >= null) and ($.x <= 5i32))\ntype: bool?\nresult: [false, null]\ntree:\nvortex.binary(and)\n├── lhs: vortex.binary(>=)\n│   ├── lhs: vortex.get_item(x)\n│   │   └── input: vortex.root()\n│   └── rhs: vortex.literal(null)\n└── rhs: vortex.binary(<=)\n    ├── lhs: vortex.get_item(x)\n    │   └── input: vortex.root()\n    └── rhs: vortex.literal(5i32)\n")

-- the page of `coalesce`
abbrev pub CoalescePageIs : Type 0
CoalescePageIs = page_of Coalesce ≡ encode_utf8_all (codes "text: CASE WHEN vortex.is_null($.x) THEN 0i32 ELSE $.x END\ntype: i32?\nresult: [0i32, 4i32]\ntree:\nvortex.case_when(case_when(pairs=1, else=true))\n├── when_0: vortex.is_null()\n│   └── input: vortex.get_item(x)\n│       └── input: vortex.root()\n├── then_0: vortex.literal(0i32)\n└── else: vortex.get_item(x)\n    └── input: vortex.root()\n")

-- the page of `cases`
abbrev pub CasesPageIs : Type 0
CasesPageIs = page_of Cases ≡ encode_utf8_all (codes "text: CASE WHEN ($.x > 0i32) THEN 10i32 WHEN ($.x > 3i32) THEN 20i32 ELSE 30i32 END\ntype: i32\nresult: [10i32, 10i32, 30i32]\ntree:\nvortex.case_when(case_when(pairs=2, else=true))\n├── when_0: vortex.binary(>)\n│   ├── lhs: vortex.get_item(x)\n│   │   └── input: vortex.root()\n│   └── rhs: vortex.literal(0i32)\n├── then_0: vortex.literal(10i32)\n├── when_1: vortex.binary(>)\n│   ├── lhs: vortex.get_item(x)\n│   │   └── input: vortex.root()\n│   └── rhs: vortex.literal(3i32)\n├── then_1: vortex.literal(20i32)\n└── else: vortex.literal(30i32)\n")

-- the page of `fused`
abbrev pub FusedPageIs : Type 0
FusedPageIs = page_of Fused ≡ encode_utf8_all (codes "text: (null <= $.x <= 5i32)\ntype: bool?\nresult: [false, null]\ntree:\nvortex.between(lower_strict: <=, upper_strict: <=)\n├── array: vortex.get_item(x)\n│   └── input: vortex.root()\n├── lower: vortex.literal(null)\n└── upper: vortex.literal(5i32)\n")

-- the page of `branches`
abbrev pub BranchesPageIs : Type 0
BranchesPageIs = page_of Branches ≡ encode_utf8_all (codes "text: vortex.fill_null($.x, 0i32)\ntype: i32\nresult: [0i32, 4i32]\ntree:\nvortex.fill_null()\n├── input: vortex.get_item(x)\n│   └── input: vortex.root()\n└── fill_value: vortex.literal(0i32)\n")

-- the page of `scan`
abbrev pub ScanPageIs : Type 0
ScanPageIs = page_of Scan ≡ encode_utf8_all (codes "text: (($.a.x >= 1i32) and ($.b < 5i32))\ntype: bool?\nresult: [true, false]\ntree:\nvortex.binary(and)\n├── lhs: vortex.binary(>=)\n│   ├── lhs: vortex.get_item(x)\n│   │   └── input: vortex.get_item(a)\n│   │       └── input: vortex.root()\n│   └── rhs: vortex.literal(1i32)\n└── rhs: vortex.binary(<)\n    ├── lhs: vortex.get_item(b)\n    │   └── input: vortex.root()\n    └── rhs: vortex.literal(5i32)\n")
