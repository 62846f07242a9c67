-- The line of a page, as a command writes it. The form is this project's own.
use Rattle.std.specs.Prelude.{ℕ, List, ◌++◌, codes}
use Rattle.clock_page.specs.Page.{PageFields}
use Rattle.system_fold.specs.PageText.{page_line}

-- the line of a page
unfoldable pub page_text : PageFields → List ℕ
page_text page = page_line page ++ codes "\n"
