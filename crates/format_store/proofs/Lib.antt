mod NewLogs
