mod StepLaws
mod TermLaws
mod EachLaws
mod ClauseLaws
mod ItemLaws
mod RowLaws
mod FileLaws
