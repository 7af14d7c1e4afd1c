mod Many
mod LineByLine
