use Rattle.vx_ffi_plan.proofs.held.page_of.Goals as goal

pub returns-in-Values-clause-page : goal.returns-in-Values-clause-page
returns-in-Values-clause-page c = rw c.in-Values.is c.scanned.ensures.prints

pub returns-in-Values-clause-stop : goal.returns-in-Values-clause-stop
returns-in-Values-clause-stop c = rw c.in-Values.is c.scanned.ensures.stop

pub returns-in-Rows-clause-page : goal.returns-in-Rows-clause-page
returns-in-Rows-clause-page c = rw c.in-Rows.is c.selected.ensures.page

pub returns-in-Rows-clause-stop : goal.returns-in-Rows-clause-stop
returns-in-Rows-clause-stop c = rw c.in-Rows.is c.selected.ensures.stop

pub returns-in-Column-clause-page : goal.returns-in-Column-clause-page
returns-in-Column-clause-page c = rw c.in-Column.is c.scanned_column.ensures.page

pub returns-in-Column-clause-stop : goal.returns-in-Column-clause-stop
returns-in-Column-clause-stop c = rw c.in-Column.is c.scanned_column.ensures.stop

pub returns-in-Filtered-clause-page : goal.returns-in-Filtered-clause-page
returns-in-Filtered-clause-page c = rw c.in-Filtered.is c.filtered_column.ensures.page

pub returns-in-Filtered-clause-stop : goal.returns-in-Filtered-clause-stop
returns-in-Filtered-clause-stop c = rw c.in-Filtered.is c.filtered_column.ensures.stop
